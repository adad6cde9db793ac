-- What a search over cells or ports answers, and what a row makes of it.
use Rattle.std.specs.Prelude.{ℕ, ◌≡◌, ◌≤◌, ◌<◌, Bool, true, false, Option}
use Rattle.std.specs.declared.option.Option.TheVariants.{Some, None}
use Rattle.switch.specs.Rows.{refusal}
use Rattle.switch.specs.declared.verdict.Cause.{Cause}
use Rattle.switch.specs.declared.verdict.Verdict.{Verdict}
use Rattle.switch.specs.declared.verdict.Verdict.TheVariants.{Accepted}

-- Of the numbers from `first` on and before `last` the first that passes the test, or nothing if none does.
abbrev pub FirstThat : ℕ → ℕ → (ℕ → Bool) → Option ℕ → Type 0
FirstThat first last test None = (k : ℕ) → first ≤ k → k < last → test k ≡ false
FirstThat first last test (Some c) =
    (first ≤ c) × (c < last) × (test c ≡ true) × ((k : ℕ) → first ≤ k → k < c → test k ≡ false)

-- What is found is what the refusal is for.
abbrev pub refusal_of : Cause → Option ℕ → Verdict
refusal_of cause None = Accepted
refusal_of cause (Some c) = refusal cause c
