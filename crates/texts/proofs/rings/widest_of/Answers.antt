use Rattle.std.proofs.Common.{max, rules, unwrap_or, sym, ap, ◌∙◌}
use Rattle.std.proofs.lemmas.Iterator.{YieldsList-from_slice, YieldsList-from_map}
use Rattle.std.proofs.lemmas.Iterator.Consumers.{reduce_from_yields_List}
use Rattle.std.proofs.lemmas.List.Folds.{max_of_map, fold-map}
use Rattle.texts.specs.Rings.{wide, widest}
use Rattle.texts.proofs.rings.widest_of.Goals as goal

pub returns : goal.returns
unfolding widest
returns c =
    c.unwrap_or.ensures
    ∙ ap (λ most. unwrap_or most 0) (reduce_from_yields_List _ _ _ c.max.ensures.ran (YieldsList-from_map _ (λ name. wide name.now) (YieldsList-from_slice c.args.names.now cc) c.map.ensures.closure (λ name width q called. search rules)))
    ∙ max_of_map (λ name. wide name.now) c.args.names.now
    ∙ sym (fold-map (λ most name. max most (wide name)) (λ x. x.now) 0 c.args.names.now)
