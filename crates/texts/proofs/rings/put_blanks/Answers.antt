use Rattle.std.proofs.Common.{◌≡◌}
use Rattle.std.specs.Iterator.Adapters.{repeat_n_steps}
use Rattle.std.proofs.lemmas.Iterator.Adapters.{YieldsList-from_repeat_n}
use Rattle.texts.proofs.Extends.{adds_items}
use Rattle.texts.proofs.rings.put_blanks.Goals as goal

pub returns : goal.returns
returns c =
    let ran = c.extend.ensures.ran in
    adds_items (repeat_n_steps (λ x y. y ≡ x)) ran.0 _ _ _ c.extend.result ran.1 _ ran.3.0 ran.4 (YieldsList-from_repeat_n (λ x y. y ≡ x) c.args.count 32 (cc) (cc) (λ y clone. clone))
