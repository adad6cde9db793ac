-- Fairness looks at flows alone: rates that agree on every used cell are fair together, whatever unused cells hold.
use Prim.Native.Nat.{◌*◌, ◌<◌}
use mathlib.Core.Path.{◌≡◌, refl, sym, ◌∙◌}
use mathlib.Core.Logic.{◌⊎◌, inl, inr}
use Rattle.fairness.specs.Total.{on}
use Rattle.switch.specs.Cells.{input, output, cell_of, demand_of, used_cell}
use Rattle.switch.specs.Within.{Within}
use Rattle.switch.specs.Rates.{Rates, flow, input_total, output_total}
use Rattle.switch.specs.Fairness.{Used, Allocation, GivesMore, Fair, InputBottleneck, OutputBottleneck, Settled, Blank}
use Rattle.switch.specs.declared.port.Input.{Input}
use Rattle.switch.specs.declared.port.Output.{Output}
use Rattle.switch.specs.declared.request.Request.{Request}
use Rattle.switch.proofs.Cells.{used_cell_of_cell, unused_of_past}
use Rattle.switch.proofs.Grid.{sum_to_same}
use Rattle.switch.proofs.Sharing.{used_flow}

pub record Agree (r : Request) (a z : Rates) : Type 0 where
  pub base : a.base ≡ z.base
  pub flows : (u : Input) (v : Output) → Used r u v → flow a u v ≡ flow z u v

pub agree_sym : (r : Request) (a z : Rates) → Agree r a z → Agree r z a
agree_sym r a z agree = record { base = sym agree.base; flows = λ u v is. sym (agree.flows u v is) }

module _ (r : Request) (a z : Rates) (agree : Agree r a z) where
  agree_input : (u : Input) → u.0 < r.m → input_total r a u ≡ input_total r z u
  agree_input u h = sum_to_same r.n _ _ (λ k l. agree.flows u (output k) (record { input = h; output = l }))

  agree_output : (v : Output) → v.0 < r.n → output_total r a v ≡ output_total r z v
  agree_output v h = sum_to_same r.m _ _ (λ k l. agree.flows (input k) v (record { input = l; output = h }))

  pub agree_allocation : Allocation r a → Allocation r z
  agree_allocation ok =
      record {
        positive = rw agree.base at ok.positive;
        feasible =
            record {
              inputs = λ u h. rw (agree_input u h, agree.base) at (ok.feasible.inputs u h);
              outputs = λ v h. rw (agree_output v h, agree.base) at (ok.feasible.outputs v h);
            };
        bounded = record { demands = λ u v is. rw (agree.flows u v is, agree.base) at (ok.bounded.demands u v is) };
      }

  -- read backwards: what is better than z is better than a
  agree_more : (u : Input) (v : Output) → Used r u v → (y : Rates) → GivesMore r z u v y → GivesMore r a u v y
  agree_more u v is y more =
      record {
        more = rw (agree.flows u v is, agree.base) more.more;
        no_less = λ u' v' is' other h.
            rw (agree.flows u' v' is', agree.base)
            (more.no_less u' v' is' other (rw (agree.flows u' v' is', agree.flows u v is) at h));
      }

  pub agree_fair : Fair r a → Fair r z
  agree_fair fair =
      record {
        allocation = agree_allocation fair.allocation;
        unbeaten = λ u v is y ok more. fair.unbeaten u v is y ok (agree_more u v is y more);
      }

  pub agree_input_bottleneck : (u : Input) (v : Output) → Used r u v → InputBottleneck r a u v → InputBottleneck r z u v
  agree_input_bottleneck u v is neck =
      record {
        below = rw (agree.flows u v is, agree.base) at neck.below;
        full = rw (agree_input u is.input, agree.base) at neck.full;
        greatest = λ v' h.
            rw (agree.flows u v' (record { input = is.input; output = h }), agree.flows u v is) at (neck.greatest v' h);
      }

  agree_output_bottleneck : (u : Input) (v : Output) → Used r u v → OutputBottleneck r a u v → OutputBottleneck r z u v
  agree_output_bottleneck u v is neck =
      record {
        below = rw (agree.flows u v is, agree.base) at neck.below;
        full = rw (agree_output v is.output, agree.base) at neck.full;
        greatest = λ u' h.
            rw (agree.flows u' v (record { input = h; output = is.output }), agree.flows u v is) at (neck.greatest u' h);
      }

  pub agree_settled : Settled r a → Settled r z
  agree_settled settled = record { each = λ u v is. go u v is (settled.each u v is) }
    where
      go : (u : Input) (v : Output) → Used r u v
          → (flow a u v ≡ demand_of r (cell_of u v) * a.base) ⊎ (InputBottleneck r a u v ⊎ OutputBottleneck r a u v)
          → (flow z u v ≡ demand_of r (cell_of u v) * z.base) ⊎ (InputBottleneck r z u v ⊎ OutputBottleneck r z u v)
      go u v is (inl met) = inl (rw (agree.flows u v is, agree.base) at met)
      go u v is (inr (inl neck)) = inr (inl (agree_input_bottleneck u v is neck))
      go u v is (inr (inr neck)) = inr (inr (agree_output_bottleneck u v is neck))

-- The same rates, with 0 in every unused cell.
abbrev pub blanked : Request → Rates → Rates
blanked r a = record { base = a.base; numerator = λ c. on (used_cell r c) (a.numerator c) }

module _ (r : Request) (w : Within r) (a : Rates) where
  pub agree_blanked : Agree r a (blanked r a)
  agree_blanked =
      record {
        base = refl;
        flows = λ u v is. rw (used_flow r w u v is);
      }

  pub blank_blanked : Blank r (blanked r a)
  blank_blanked =
      record { unused = λ u v hu hv past. rw (used_cell_of_cell r u v hu hv ∙ unused_of_past r u v past) }
