use Rattle.std.proofs.Common.{◌≡◌, map, vec_items, None, sym, refl, ◌∙◌, arith}
use Rattle.std.proofs.lemmas.Result.{err_from_is_err_and}
use Rattle.texts.specs.Drafts.{place, sofar_of}
use Rattle.texts.proofs.Pairs.{pair_unknown}
use Rattle.texts.proofs.drafts.Draft.take_pair.Goals as goal

pub returns-in_err-other : goal.returns-in_err-other
returns-in_err-other c =
    let p = err_from_is_err_and c.from_residual-in_err-other.result c.from_residual-in_err-other.ensures.1 in
    let names = map (λ x. x.now) (vec_items c.args.self.now.names) in
    let gone : c.place_of-2.result ≡ None = grind (arith, c.in_err-other.ensures.value, c.in_err-other.was) in
    let none : place c.args.next.now names ≡ None = rw c.as_slice-names.ensures.value at (sym c.place_of-2.ensures ∙ gone) in
    rw (p.1, p.2) (pair_unknown (sofar_of c.args.self.now) (place c.args.first.now names) (place c.args.next.now names) c.args.seconds none, refl)
