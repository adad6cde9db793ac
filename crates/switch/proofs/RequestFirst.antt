-- What is refused of a request is its first fault: no fault has a lower number, and none of the same number a lower place.
use Prim.Native.Nat.{ℕ}
use mathlib.Core.Path.{◌≡◌, refl}
use native.Mathlib.Omega.{arith}
use Rattle.switch.specs.Fault.{Fault}
use Rattle.switch.specs.Given.{Gives, NoLater}
use Rattle.switch.specs.RequestRows.{request_rows, request_verdict}
use Rattle.switch.specs.declared.request.Request.{Request}
use Rattle.switch.specs.declared.verdict.Verdict.TheVariants.{Accepted}
use Rattle.switch.proofs.First.{ascending, first_of_noticed, none_of_noticed}
use Rattle.switch.proofs.Noticed.{request_noticed, limits_rising, zeros_rising}
use Rattle.switch.proofs.Rows.{each_cons, each_nil}

module _ (r : Request) where
  pub request_first : (k p : ℕ) → Gives (request_verdict r) k p → (k' p' : ℕ) → Fault r k' p' → NoLater k p k' p'
  unfolding ascending
  request_first =
      first_of_noticed (request_rows r) (Fault r) (request_noticed r) refl
      (limits_rising r (omega arith) (each_cons _ (zeros_rising r {high = 83} (omega arith)) (each_nil _)))

  pub request_none : request_verdict r ≡ Accepted → (k p : ℕ) → Fault r k p → ⊥
  request_none = none_of_noticed (request_rows r) (Fault r) (request_noticed r)
