-- The words are folded into the sum.
use Rattle.std.proofs.Common.{refl, rules, ◌∙◌}
use Rattle.std.proofs.lemmas.Iterator.{YieldsList-from_range, YieldsList-from_map}
use Rattle.std.proofs.lemmas.Iterator.Consumers.{fold_from_yields_List, YieldsList-at}
use Rattle.words.specs.Check.{taken, word_in}
use Rattle.blocks.proofs.Running.{running_folded}
use Rattle.blocks.proofs.check.check.Goals as goal

pub returns : goal.returns
returns c =
    let a = c.args in
    let w = word_in a.file.now a.block in
    fold_from_yields_List _ (λ sum x. taken sum x) _ _ c.fold.ensures.ran
    (YieldsList-from_map _ w (YieldsList-at c.map.ensures.source (YieldsList-from_range 0 127 127 refl refl))
    c.map.ensures.closure (λ x r q k. search rules))
    (λ s x b q k. search rules)
    ∙ running_folded a.start w 127
