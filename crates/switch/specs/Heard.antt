-- What `?` after a verdict does: it goes on after an acceptance, and leaves with a refusal.
use Rattle.std.specs.Prelude.{◌≡◌, ⊤}
use Rattle.std.specs.declared.ops.ControlFlow.{ControlFlow}
use Rattle.std.specs.declared.ops.ControlFlow.TheVariants.{Continue, Break}
use Rattle.switch.specs.declared.verdict.Refusal.{Refusal}
use Rattle.switch.specs.declared.verdict.Verdict.{Verdict}
use Rattle.switch.specs.declared.verdict.Verdict.TheVariants.{Accepted, Refused}

abbrev pub goes_on : Verdict → ControlFlow Refusal ⊤ → Type 0
goes_on verdict (Continue _) = verdict ≡ Accepted
goes_on verdict (Break refusal) = verdict ≡ Refused refusal
