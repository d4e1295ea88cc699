use Rattle.std.proofs.Common.{◌≡◌, ◌∙◌, ap, subst, sym, [], map, string_bytes, option_map}
use Rattle.std.proofs.lemmas.Result.{IfOk-weaker}
use Rattle.clap.specs.Kinds.{HasKind}
use Rattle.clap.specs.Matches.{found_of}
use Rattle.clap.specs.Simple.{app_of, is_simple, matches_of}
use Rattle.clap.specs.Faults.{fault_of, is_simple_and_free}
use Rattle.clap.specs.Walk.{rows_of}
use Rattle.command_words.specs.Made.{made_alone}
use Rattle.command_words.specs.Requests.{told_generation}
use Rattle.command_words.proofs.ClapAlone.{alone_is_free, alone_is_simple, refused_alone, taken_alone}
use Rattle.command_words.proofs.ClapTop.{words_are_utf8}
use Rattle.command_words.proofs.command_line.generation_asked.Goals as goal

pub returns-in-Ok-clause-asked : goal.returns-in-Ok-clause-asked
returns-in-Ok-clause-asked c =
    let words = map string_bytes c.args.words.now in
    let made_is : app_of c.in_ok-command.command ≡ made_alone = c.in_ok-command.ensures in
    let passes : fault_of made_alone words ≡ [] = ap (λ a. fault_of a words) (sym made_is) ∙ c.in-Ok.ensures.kinds (ap is_simple_and_free made_is ∙ alone_is_free) in
    let found : rows_of (found_of c.in-Ok.matches) ≡ matches_of made_alone words =
    (c.in-Ok.ensures.matches (ap is_simple made_is ∙ alone_is_simple)).0 ∙ ap (λ a. matches_of a words) made_is in
    taken_alone words (words_are_utf8 c.args.words.now) c.requires passes _ found _ c.generation_of.ensures.told

pub returns-in-Err-clause-asked : goal.returns-in-Err-clause-asked
returns-in-Err-clause-asked c =
    let words = map string_bytes c.args.words.now in
    let made_is : app_of c.in_ok-command.command ≡ made_alone = c.in_ok-command.ensures in
    let kinds : HasKind (fault_of made_alone words) c.in-Err.error =
    subst (λ a. HasKind (fault_of a words) c.in-Err.error) made_is (c.in-Err.ensures.kinds (ap is_simple_and_free made_is ∙ alone_is_free)) in
    IfOk-weaker c.generation_refused.result _ _
    (λ r h. ap (option_map told_generation) h.0 ∙ refused_alone words (words_are_utf8 c.args.words.now) c.requires _ kinds (λ e. h.1 (c.kind.ensures ∙ e)))
    c.generation_refused.ensures
