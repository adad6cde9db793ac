-- A running sum is what folding the words gives.
use Rattle.std.proofs.Common.{◌≡◌, ℕ, zero, suc, [], ◌∷◌, map, refl, ◌∙◌, ap, add-one, zero-add}
use Rattle.std.specs.List.{fold, range_with_len}
use Rattle.std.proofs.lemmas.List.FromFn.{map-range_with_len_more}
use Rattle.std.proofs.lemmas.List.Sums.{fold-append}
use Rattle.words.specs.Check.{taken, running}

pub running_folded : (start : ℕ) (word : ℕ → ℕ) (n : ℕ)
    → fold (λ sum w. taken sum w) start (map word (range_with_len 0 n)) ≡ running start word n
unfolding running
running_folded start word zero = refl
running_folded start word (suc n) =
    let more = map-range_with_len_more word 0 n n (zero-add n) in
    ap (fold (λ sum w. taken sum w) start) (rw add-one at more)
    ∙ fold-append (λ sum w. taken sum w) start (map word (range_with_len 0 n)) (word n ∷ [])
    ∙ ap (λ sum. taken sum (word n)) (running_folded start word n)
