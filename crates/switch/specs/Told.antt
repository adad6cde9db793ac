-- What `{}` writes of a refusal, its number and its place, and of a verdict. The listing's line of a refusal is another text: it ends
-- in a line feed, and `texts` defines it.
use Rattle.std.specs.Prelude.{List, ◌++◌, ℕ, codes}
use Rattle.std.specs.Fmt.{decimal}
use Rattle.switch.specs.Numbering.{number_of}
use Rattle.switch.specs.declared.verdict.Refusal.{Refusal}
use Rattle.switch.specs.declared.verdict.Verdict.{Verdict}
use Rattle.switch.specs.declared.verdict.Verdict.TheVariants.{Accepted, Refused}

abbrev pub refusal_told : Refusal → List ℕ
refusal_told r = codes "refused " ++ (decimal (number_of r.cause) ++ (codes " " ++ decimal r.place))

abbrev pub verdict_told : Verdict → List ℕ
verdict_told Accepted = codes "accepted"
verdict_told (Refused r) = refusal_told r
