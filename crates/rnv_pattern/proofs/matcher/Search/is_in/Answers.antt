use Rattle.std.proofs.Common.{◌≡◌, ◌∙◌, sym, ap}
use Rattle.std.specs.Str.{chars}
use Rattle.rnv_pattern.specs.Kept.{is_seen}
use Rattle.rnv_pattern.specs.declared.matcher.Search.{Search}
use Rattle.rnv_pattern.proofs.Deciding.{globs-test}
use Rattle.rnv_pattern.proofs.matcher.Search.is_in.Goals as goal

pub returns-in-Glob-clause-found : goal.returns-in-Glob-clause-found
returns-in-Glob-clause-found c =
    globs-test c.matches.result c.in-Glob.glob.now (chars c.args.text.now) c.matches.ensures ∙ ap (λ (s : Search). is_seen s c.args.text.now) (sym c.in-Glob.is)
