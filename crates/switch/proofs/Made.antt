-- An array that `from_fn` makes by a closure which changes nothing: at each index stands what the closure gives for it.
use Rattle.std.proofs.Common.{ℕ, zero, suc, ◌+◌, ◌≤◌, ◌<◌, ◌≡◌, refl, sym, ◌∙◌, subst, List, get_or, inl, inr, arith}
use Rattle.std.specs.Array.{IsFromFnResult, IsFromFnResultFrom}
use Rattle.std.specs.Fn.{Called}
use Rattle.laws.specs.Lists.{list}
use Rattle.laws.proofs.Lists.{list_is}
use Rattle.laws.proofs.Search.{eq_or_not}
use denote.Param.Members.{Mut}

module _ {F T : Type 0} (g : Mut F (ℕ × Unit {0}) T) (f : ℕ → T) (n : ℕ) (s : F)
    (call : (i : ℕ) (y : T) (t : F) → i < n → Called g s (i, tt) y t → (y ≡ f i) × (t ≡ s)) where
  each : (none : T) (ys : List T) (k i : ℕ) (p : F) → p ≡ s → i + k ≤ n → IsFromFnResultFrom g p ys i k → (c : ℕ) → i ≤ c
      → c < i + k → f c ≡ get_or ys c none
  each none ys zero i p same room made c low high = absurd (omega arith)
  each none ys (suc k) i p same room (q, y, at, called, rest) c low high =
      let (is, kept) = call i y q (omega arith) (subst (λ (x : F). Called g x (i, tt) y q) same called) in
      elim (eq_or_not c i) [
        | inl here ↦ subst (λ (x : ℕ). f x ≡ get_or ys x none) (sym here) (sym is ∙ sym (at.1 none))
        | inr other ↦ each none ys k (i + 1) q kept (omega arith) rest c (omega arith) (omega arith)
      ]

  -- The entry at each index, whatever stands for none.
  pub made_each : {ys : List T} → IsFromFnResult g s ys n → (none : T) (c : ℕ) → c < n → get_or ys c none ≡ f c
  made_each {ys} made none c h = sym (each none ys n 0 s refl (omega arith) made.each c (omega arith) (omega arith))

-- An array of numbers is the list of what the closure gives.
pub made_by : {F : Type 0} (g : Mut F (ℕ × Unit {0}) ℕ) (f : ℕ → ℕ) (n : ℕ) (s : F)
    → ((i y : ℕ) (t : F) → i < n → Called g s (i, tt) y t → (y ≡ f i) × (t ≡ s)) → {ys : List ℕ}
    → IsFromFnResult g s ys n → ys ≡ list n f
made_by g f n s call {ys} made = sym (list_is n f ys made.long (λ c h. sym (made_each g f n s call made 0 c h)))
