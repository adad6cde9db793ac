-- Every public call's contract is an equation with a definition, and so it allows one outcome alone.
use Prim.Native.Nat.{ℕ}
use mathlib.Core.Path.{◌≡◌, refl, subst}
use mathlib.Core.List.{[], Mem, not-mem-nil}
use Rattle.laws.proofs.Determined.{one_answer}
use Rattle.std.specs.Prelude.{⊤}
use Rattle.std.specs.declared.ops.ControlFlow.{ControlFlow}
use Rattle.std.specs.declared.ops.ControlFlow.TheVariants.{Continue, Break}
use Rattle.switch.specs.Heard.{goes_on}
use Rattle.switch.specs.declared.verdict.Refusal.{Refusal}
use Rattle.switch.specs.declared.verdict.Verdict.{Verdict}
use Rattle.promises.specs.Contract.{Settles}
use Rattle.promises.specs.Calls.{heard, BlocksCalls, SwitchCalls, RequestsCalls, SharesCalls, PlannerCalls, CheckerCalls, FilesCalls, ListingCalls, ExportCalls, Calls}

nowhere : {A : Type 0} {l : ℕ} → Mem l [] → A
nowhere m = absurd (not-mem-nil m)

settles : {K : Type 0} {D Z E A : K → Type 0} {asked : (κ : K) → D κ → Type 0} {allowed : (κ : K) → D κ → Z κ → E κ → Type 0}
    {seen : (κ : K) → Z κ → E κ → A κ} {definition : (κ : K) → D κ → A κ} → ((κ : K) (a : D κ) → asked κ a)
    → ((κ : K) (a : D κ) (z : Z κ) (e : E κ) → allowed κ a z e → seen κ z e ≡ definition κ a) → Settles asked allowed seen definition
settles total defined =
    record {
      total = total;
      defined = defined;
      same = λ κ a z z' e e' p q. one_answer (defined κ a z e p) (defined κ a z' e' q);
    }

heard_by : (v : Verdict) (z : ControlFlow Refusal ⊤) → goes_on v z → z ≡ heard v
heard_by v (Continue tt) p = rw p refl
heard_by v (Break reason) p = rw p refl

blocks : BlocksCalls
blocks =
    record {
      word = settles (λ κ a. tt) (λ κ a z e p. p);
      put = settles (λ κ a. tt) (λ κ a z e p. p);
      start_of = settles (λ κ a. tt) (λ κ a z e p. p);
      check = settles (λ κ a. tt) (λ κ a z e p. p);
      sealed = settles (λ κ a. tt) (λ κ a z e p. p);
      seal = settles (λ κ a. tt) (λ κ a z e p. p);
    }

switch : SwitchCalls
switch =
    record {
      entry = λ T laws copy clone dict nothing. settles (λ κ a l m. nowhere (subst (λ ls. Mem l ls) nothing m)) (λ κ a z e p. p);
      cell = settles (λ κ a. tt) (λ κ a z e p. p);
      input_of = settles (λ κ a. tt) (λ κ a z e p. p);
      output_of = settles (λ κ a. tt) (λ κ a z e p. p);
      used_end = settles (λ κ a. tt) (λ κ a z e p. p);
      input_limit = settles (λ κ a. tt) (λ κ a z e p. p);
      output_limit = settles (λ κ a. tt) (λ κ a z e p. p);
      zero = settles (λ κ a. tt) (λ κ a z e p. p);
      demand = settles (λ κ a. tt) (λ κ a z e p. p);
      input_numbered = settles (λ κ a. tt) (λ κ a z e p. p);
      input_flow = settles (λ κ a. tt) (λ κ a z e p. p);
      output_numbered = settles (λ κ a. tt) (λ κ a z e p. p);
      output_flow = settles (λ κ a. tt) (λ κ a z e p. p);
      half_number = settles (λ κ a. tt) (λ κ a z e p. p);
      empty = settles (λ κ a. tt) (λ κ a z e p. p);
      refused = settles (λ κ a. tt) (λ κ a z e p. p);
      or_else = settles (λ κ a. tt) (λ κ a z e p. p);
      number = settles (λ κ a. tt) (λ κ a z e p. p);
      branch = settles (λ κ a. tt) (λ κ a z e p. heard_by _ _ p);
      from_output = settles (λ κ a. tt) (λ κ a z e p. p);
      from_residual = settles (λ κ a. tt) (λ κ a z e p. p);
      refusal_fmt = λ W laws writes dict nothing.
          record { total = λ κ a l m. nowhere (subst (λ ls. Mem l ls) nothing m); text = λ κ a z e p. p.0 };
      verdict_fmt = λ W laws writes dict nothing.
          record { total = λ κ a l m. nowhere (subst (λ ls. Mem l ls) nothing m); text = λ κ a z e p. p.0 };
    }

requests : RequestsCalls
requests =
    record {
      check = settles (λ κ a. tt) (λ κ a z e p. p);
    }

shares : SharesCalls
shares =
    record {
      times = settles (λ κ a. tt) (λ κ a z e p. p);
      port = λ P laws copy end ends clone dict nothing. settles (λ κ a l m. nowhere (subst (λ ls. Mem l ls) nothing m)) (λ κ a z e p. p);
      input_port = settles (λ κ a. tt) (λ κ a z e p. p);
      output_port = settles (λ κ a. tt) (λ κ a z e p. p);
      holds = settles (λ κ a. tt) (λ κ a z e p. p);
      reason = settles (λ κ a. tt) (λ κ a z e p. p);
      level = settles (λ κ a. tt) (λ κ a z e p. p);
      reason_by = settles (λ κ a. tt) (λ κ a z e p. p);
      reasons = settles (λ κ a. tt) (λ κ a z e p. p);
      divisor = settles (λ κ a. tt) (λ κ a z e p. p);
      common_divisor = settles (λ κ a. tt) (λ κ a z e p. p);
      reduce = settles (λ κ a. tt) (λ κ a z e p. p.0);
      reduce_numerators = settles (λ κ a. tt) (λ κ a z e p. p.1);
    }

planner : PlannerCalls
planner =
    record {
      plan = settles (λ κ a. tt) (λ κ a z e p. p.0);
    }

checker : CheckerCalls
checker =
    record {
      judge = settles (λ κ a. tt) (λ κ a z e p. p);
      unused = settles (λ κ a. tt) (λ κ a z e p. p);
      base_row = settles (λ κ a. tt) (λ κ a z e p. p);
      rates = settles (λ κ a. tt) (λ κ a z e p. p);
    }

files : FilesCalls
files =
    record {
      read_request = settles (λ κ a. tt) (λ κ a z e p. p);
      write_request = settles (λ κ a. tt) (λ κ a z e p. p.0);
      write_request_buffer = settles (λ κ a. tt) (λ κ a z e p. p.1);
      write_plan = settles (λ κ a. tt) (λ κ a z e p. p.0);
      write_plan_buffer = settles (λ κ a. tt) (λ κ a z e p. p.1);
      check = settles (λ κ a. tt) (λ κ a z e p. p);
      choose = settles (λ κ a. tt) (λ κ a z e p. p.0);
      choose_place = settles (λ κ a. tt) (λ κ a z e p. p.1);
    }

listing : ListingCalls
listing =
    record {
      list = settles (λ κ a. tt) (λ κ a z e p. p.0);
      list_text = settles (λ κ a. tt) (λ κ a z e p. p.1.0);
    }

export : ExportCalls
export =
    record {
      read = settles (λ κ a. tt) (λ κ a z e p. p);
      write = settles (λ κ a. tt) (λ κ a z e p. p.0);
      write_buffer = settles (λ κ a. tt) (λ κ a z e p. p.1);
      check = settles (λ κ a. tt) (λ κ a z e p. p);
      choose = settles (λ κ a. tt) (λ κ a z e p. p);
      list = settles (λ κ a. tt) (λ κ a z e p. p.0);
      list_text = settles (λ κ a. tt) (λ κ a z e p. p.1);
    }

pub calls_settled : Calls
calls_settled =
    record {
      blocks = blocks;
      switch = switch;
      requests = requests;
      shares = shares;
      planner = planner;
      checker = checker;
      files = files;
      listing = listing;
      export = export;
    }
