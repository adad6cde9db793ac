-- What a side's ports are asked, from what its ports are and from what they have. Stands because docs/PORT.md names it; no function
-- cites it today.
use Rattle.std.proofs.Common.{ℕ, ◌≡◌, ◌<◌, sym, ◌∙◌, ap, ap₂, arith, List, length}
use Rattle.laws.proofs.Lists.{length-list}
use Rattle.switch.specs.Rows.{row_verdict}
use Rattle.switch.specs.declared.verdict.Cause.{Cause}
use Rattle.switch.specs.declared.verdict.Verdict.{Verdict}
use Rattle.worked.specs.Worked.{sums, more_row, levels}
use Rattle.worked.specs.declared.port.Port.{Port}
use Rattle.worked.specs.declared.side.Weighed.{Weighed}

-- `full` and `side` are what two calls gave, and the others what their contracts say that it is.
module _ {full full' : List ℕ} {side side' : ℕ → Port} (scaled : full ≡ full') (ports : side ≡ side') (full_long : length full' ≡ 8) where
  pub sums_long : length (sums side) ≡ 8
  sums_long = length-list 8 (λ k. (side k).sum)

  pub lengths : (length full ≡ length (sums side)) × (length (sums side) < 4_294_967_296)
  lengths = (ap length scaled ∙ full_long ∙ sym sums_long, omega (arith, sums_long))

  pub weighed : (cause : Cause) {over : Verdict} {table : List ℕ}
      → over ≡ row_verdict (more_row cause (length (sums side)) full (sums side))
      → table ≡ levels full side
      → ◌≡◌ {A = Weighed} (record { over = over; levels = table })
      (record { over = row_verdict (more_row cause 8 full' (sums side')); levels = levels full' side' })
  weighed cause o t =
      let verdict = o ∙ ap (λ (k : ℕ). row_verdict (more_row cause k full (sums side))) sums_long
      ∙ ap₂ (λ (f : List ℕ) (s : ℕ → Port). row_verdict (more_row cause 8 f (sums s))) scaled ports in
      let table = t ∙ ap₂ levels scaled ports in
      λ i. record { over = verdict i; levels = table i }
