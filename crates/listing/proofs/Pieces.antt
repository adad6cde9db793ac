-- Pieces of a text that are put one behind the other, and the room that they take together.
use Rattle.std.proofs.Common.{◌≡◌, ℕ, zero, suc, ◌+◌, ◌≤◌, ◌<◌, List, [], ◌++◌, length, append_assoc, append-nil, length-append, add-one, arith, refl, ap}
use mathlib.Core.Logic.{◌⊎◌, inl, inr}
use Rattle.laws.proofs.Search.{le_or_lt}
use Rattle.texts.specs.Listing.{each}
use Rattle.listing.specs.Room.{HasRoom}
use Rattle.texts.proofs.Decimal.{decimal_small, decimal_large}

pub each_none : (f : ℕ → List ℕ) → each 0 f ≡ []
unfolding each
each_none f = refl

pub each_more : (n : ℕ) (f : ℕ → List ℕ) → each (n + 1) f ≡ each n f ++ f n
unfolding each
each_more n f = rw (add-one n)

-- One of n texts takes no more room behind those before it than all of them.
each_within : (f : ℕ → List ℕ) (k n : ℕ) → k < n → length (each k f) + length (f k) ≤ length (each n f)
unfolding each
each_within f k zero h = absurd (omega arith)
each_within f k (suc n) h = go (le_or_lt n k) (each_within f k n)
  where
    go : (n ≤ k) ⊎ (k < n) → (k < n → length (each k f) + length (f k) ≤ length (each n f))
        → length (each k f) + length (f k) ≤ length (each (suc n) f)
    go (inr l) before = omega (arith, before l, length-append (each n f) (f n))
    go (inl l) before = let e : k ≡ n = omega arith in rw e (omega (arith, length-append (each n f) (f n)))

pub each_room : (f : ℕ → List ℕ) (start written : List ℕ) (k n : ℕ) → written ≡ start ++ each k f → k < n
    → HasRoom start (each n f) → HasRoom written (f k)
each_room f start written k n so_far h room =
    omega (arith, each_within f k n h, ap length so_far, length-append start (each k f))

-- What the search is told: of pieces, of a number's digits, and of texts one behind the other.
pub ruleset pieces = (append_assoc, length-append)

pub ruleset digits = (append_assoc, length-append, decimal_small, decimal_large)

pub ruleset texts = (append_assoc, append-nil, each_none, each_more)
