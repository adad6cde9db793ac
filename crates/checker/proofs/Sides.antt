-- What is asked of a side, from its table of ports.
use Prim.Native.Nat.{ℕ, ◌<◌}
use mathlib.Core.List.{List}
use mathlib.Core.Path.{◌≡◌, sym, ◌∙◌, ap, ap₂}
use lib.ListN.{length, get_or}
use Rattle.laws.proofs.Lists.{list_is, list_same}
use Rattle.switch.specs.Rows.{row_verdict}
use Rattle.switch.specs.declared.verdict.Cause.{Cause}
use Rattle.switch.specs.declared.verdict.Verdict.{Verdict}
use Rattle.worked.specs.Port.{no_port}
use Rattle.worked.specs.Worked.{scaled, sums, level_of, levels, more_row, weighed}
use Rattle.worked.specs.declared.port.Port.{Port}
use Rattle.worked.specs.declared.side.Weighed.{Weighed}

module _ (cause : Cause) (capacities : List ℕ) (b : ℕ) (f : ℕ → Port) (ports : List Port) (full table added : List ℕ) (over : Verdict)
    (each : (k : ℕ) → k < 8 → get_or ports k no_port ≡ f k) (scaled_is : full ≡ scaled 8 b capacities)
    (added_long : length added ≡ 8) (added_are : (k : ℕ) → k < 8 → get_or added k 0 ≡ (get_or ports k no_port).sum)
    (over_is : over ≡ row_verdict (more_row cause 8 full added)) (levels_are : table ≡ levels full (λ k. get_or ports k no_port)) where
  sums_are : added ≡ sums f
  sums_are = sym (list_is 8 _ added added_long (λ k h. sym (added_are k h ∙ ap (λ (p : Port). p.sum) (each k h))))

  levels_of_side : levels full (λ k. get_or ports k no_port) ≡ levels full f
  levels_of_side = list_same 8 _ _ (λ k h. ap (λ (p : Port). level_of (get_or full k 0) p.sum p.most) (each k h))

  pub weighed_side : ◌≡◌ {A = Weighed} (record { over = over; levels = table }) (weighed cause capacities b f)
  weighed_side =
      let verdict = over_is ∙ ap₂ (λ x y. row_verdict (more_row cause 8 x y)) scaled_is sums_are in
      let all = levels_are ∙ levels_of_side ∙ ap (λ x. levels x f) scaled_is in
      λ i. record { over = verdict i; levels = all i }
