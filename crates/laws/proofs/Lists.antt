-- Lists made by a rule.
use Prim.Native.Nat.{ℕ, zero, suc, ◌+◌, ◌<◌}
use mathlib.Core.Path.{◌≡◌, refl, sym, ◌∙◌, ap}
use native.Mathlib.Nat.{not-suc-le-zero, le_of_suc-le-suc, add-zero, zero-add, suc-add, add-suc}
use native.Mathlib.Numerals.{add-one}
use mathlib.Core.List.{List, [], ◌∷◌, ◌++◌, append_assoc}
use lib.ListN.{length, get_or, set, drop}
use lib.Seq.{drop-cons, set_at, ext_get_or}
use Rattle.laws.specs.Lists.{cells, list_from, list}

cells-list_from : (n i : ℕ) (f : ℕ → ℕ) (c : ℕ) → c < n → cells (list_from n i f) c ≡ f (i + c)
unfolding list_from
cells-list_from zero i f c h = absurd (not-suc-le-zero h)
cells-list_from (suc n) i f zero h = ap f (sym (add-zero i))
cells-list_from (suc n) i f (suc c) h =
    cells-list_from n (suc i) f c (le_of_suc-le-suc h) ∙ ap f (suc-add i c ∙ sym (add-suc i c))

pub cells-list : (n : ℕ) (f : ℕ → ℕ) (c : ℕ) → c < n → cells (list n f) c ≡ f c
unfolding list
cells-list n f c h = cells-list_from n 0 f c h ∙ ap f (zero-add c)

length-list_from : (n i : ℕ) (f : ℕ → ℕ) → length (list_from n i f) ≡ n
unfolding list_from
length-list_from zero i f = refl
length-list_from (suc n) i f = ap suc (length-list_from n (suc i) f)

pub length-list : (n : ℕ) (f : ℕ → ℕ) → length (list n f) ≡ n
unfolding list
length-list n f = length-list_from n 0 f

list_from_more : (n i : ℕ) (f : ℕ → ℕ) → list_from (suc n) i f ≡ list_from n i f ++ (f (i + n) ∷ [])
unfolding list_from
list_from_more zero i f = ap (λ (k : ℕ). f k ∷ []) (sym (add-zero i))
list_from_more (suc n) i f =
    ap (λ (l : List ℕ). f i ∷ l)
    (list_from_more n (suc i) f
    ∙ ap (λ (k : ℕ). list_from n (suc i) f ++ (f k ∷ [])) (suc-add i n ∙ sym (add-suc i n)))

-- A table that is filled from the front by a rule, one store a turn.
pub filled_more : (n : ℕ) (f : ℕ → ℕ) (d : List ℕ) → n < length d
    → set (list n f ++ drop n d) n (f n) ≡ list (n + 1) f ++ drop (n + 1) d
unfolding list
filled_more n f d h =
    rw (
      add-one n,
      drop-cons d n 0 h,
      set_at (list_from n 0 f) (get_or d n 0) (drop (suc n) d) (f n) n (length-list_from n 0 f),
      list_from_more n 0 f,
      zero-add n,
      append_assoc (list_from n 0 f) (f n ∷ []) (drop (suc n) d),
    )

-- A list made by a rule is told by its cells.
pub list_is : (n : ℕ) (f : ℕ → ℕ) (xs : List ℕ) → length xs ≡ n → ((c : ℕ) → c < n → f c ≡ cells xs c) → list n f ≡ xs
list_is n f xs long h =
    ext_get_or 0 (list n f) xs (length-list n f ∙ sym long)
    (λ c l. let hc : c < n = rw (length-list n f) at l in cells-list n f c hc ∙ h c hc)

pub list_same : (n : ℕ) (f g : ℕ → ℕ) → ((c : ℕ) → c < n → f c ≡ g c) → list n f ≡ list n g
list_same n f g h = list_is n f (list n g) (length-list n g) (λ c hc. h c hc ∙ sym (cells-list n g c hc))
