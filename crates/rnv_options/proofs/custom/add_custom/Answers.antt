use Rattle.std.proofs.Common.{◌≡◌, [], ◌∷◌, ◌++◌, rules}
use Rattle.rnv_options.proofs.Listed.{gives-none}
use Rattle.rnv_options.proofs.custom.add_custom.Goals as goal

pub returns-in_ok-push-in-Ok-clause-tells : goal.returns-in_ok-push-in-Ok-clause-tells
returns-in_ok-push-in-Ok-clause-tells g c = λ wrong agrees.
    let pushed : c.push.new.self ≡ c.args.list.now ++ c.in-Ok.one ∷ [] = search rules in
    (c.in-Ok.one, pushed, c.in-Ok.ensures.tells wrong agrees)

pub returns-in_ok-push-in-Ok-clause-built : goal.returns-in_ok-push-in-Ok-clause-built
returns-in_ok-push-in-Ok-clause-built g c =
    let pushed : c.push.new.self ≡ c.args.list.now ++ c.in-Ok.one ∷ [] = search rules in
    (c.in-Ok.one, pushed, c.in-Ok.ensures.built)

pub returns-in-Err-clause-tells : goal.returns-in-Err-clause-tells
returns-in-Err-clause-tells g c = λ wrong agrees. gives-none c.in-Err.wrong _ _ _ (c.in-Err.ensures.tells wrong agrees)
