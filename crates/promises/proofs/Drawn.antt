-- The table of the drawn examples, from what was worked out where each definition stands.
use mathlib.Core.List.{List, [], ◌∷◌, Memᴰ}
use mathlib.Core.Path.{◌≡◌, refl, sym, subst}
use Rattle.words.proofs.Sealed.{empty_block_checks}
use Rattle.switch.specs.Drawn.{rows, Example, drawn_plans}
use Rattle.switch.specs.Given.{Gives}
use Rattle.switch.specs.Planned.{plan_of}
use Rattle.switch.specs.RequestRows.{request_verdict}
use Rattle.switch.specs.Rows.{first_from, row_verdict, verdict_of, if_accepted}
use Rattle.switch.specs.Values.{empty_plan}
use Rattle.switch.specs.declared.verdict.Verdict.{Verdict}
use Rattle.switch.specs.declared.verdict.Verdict.TheVariants.{Accepted}
use Rattle.switch.proofs.Drawn.{drawn_plans_are_right}
use Rattle.judging.specs.Drawn.{Offered, offered}
use Rattle.judging.specs.PlanRows.{judged}
use Rattle.judging.proofs.Drawn.{drawn_verdicts}
use Rattle.texts.proofs.Shown.{listing_shown}
use Rattle.promises.specs.Drawn.{Planned, DrawnTable}

gets : (e : Example) → request_verdict e.request ≡ Accepted → plan_of e.request ≡ e.plan → Planned e
gets e accepted planned i =
    let v : Verdict = accepted i in
    record { verdict = v; plan = if_accepted v (planned i) empty_plan }

-- What holds of every example of a list, one after another.
Each : {A : Type 0} (P : A → Type 0) → List A → Type 0
Each P [] = Unit {0}
Each P (x ∷ xs) = P x × Each P xs

each : {A : Type 0} (P : A → Type 0) (xs : List A) → ((x : A) → Memᴰ x xs → P x) → Each P xs
unfolding Each
each P [] all = tt
each P (x ∷ xs) all = (all x (Memᴰ.head refl), each P xs (λ y m. all y (Memᴰ.tail m)))

pub drawn_shown : DrawnTable
unfolding Each rows drawn_plans offered first_from row_verdict verdict_of
drawn_shown =
    let (p1, (p2, (p3, (p4, (p5, (p5', (p6, (p7, (p8, (p8', _)))))))))) =
    each (λ (e : Example). plan_of e.request ≡ e.plan) drawn_plans drawn_plans_are_right in
    let (p9, (p10, (p11, _))) =
    each (λ (o : Offered). judged o.request o.plan ≡ o.verdict) offered drawn_verdicts in
    record {
      P1 = gets _ refl p1;
      P2 = gets _ refl p2;
      P3 = gets _ refl p3;
      P4 = gets _ refl p4;
      P5 = (gets _ refl p5, gets _ refl p5');
      P6 = gets _ refl p6;
      P7 = (gets _ refl p7, listing_shown.drawn);
      P8 = (gets _ refl p8, gets _ refl p8');
      P9 = p9;
      P10 = subst (λ (v : Verdict). Gives v 14 9) (sym p10) (refl, refl);
      P11 = subst (λ (v : Verdict). Gives v 11 1) (sym p11) (refl, refl);
      P12 = empty_block_checks;
    }
