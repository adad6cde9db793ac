-- `code` meets its contract: the place of a refusal fits beside its number.
use Rattle.std.proofs.Common.{◌≡◌, ◌<◌, refl, subst, arith}
use Rattle.switch.specs.declared.verdict.Refusal.{Refusal}
use Rattle.switch.specs.declared.verdict.Verdict.{Verdict}
use Rattle.switch.specs.declared.verdict.Verdict.TheVariants.{Refused}
use Rattle.codes.specs.Code.{Placed}
use Rattle.export.proofs.code.code.Goals as goal

place_fits : (v : Verdict) (x : Refusal) → Placed v → v ≡ Refused x → x.place < 4_294_967_296
place_fits v x placed e = subst Placed e placed _ _ (refl, refl)

pub overflow_add-result : goal.overflow_add-result
overflow_add-result c = omega (arith, place_fits c.args.verdict c.in-Refused.refusal c.requires c.in-Refused.is)
