use Rattle.std.proofs.Common.{◌≡◌, ◌∙◌, ap, subst, sym, [], map, string_bytes}
use Rattle.std.proofs.lemmas.Result.{IfOk-weaker}
use Rattle.clap.specs.Kinds.{HasKind}
use Rattle.clap.specs.Simple.{app_of, is_simple, subcommand_of, subcommand_rows_of}
use Rattle.clap.specs.Faults.{fault_of, is_simple_and_free}
use Rattle.command_words.specs.CommandLine.{asked_of}
use Rattle.command_words.specs.Requests.{told_of}
use Rattle.command_words.specs.Made.{made}
use Rattle.command_words.proofs.ClapApp.{made_is_free, made_is_simple}
use Rattle.command_words.proofs.ClapTop.{outcome, refused, taken, words_are_utf8}
use Rattle.command_words.proofs.command_line.asked_of.Goals as goal

pub returns-in-Ok-clause-asked : goal.returns-in-Ok-clause-asked
returns-in-Ok-clause-asked c =
    let words = map string_bytes c.args.words.now in
    let made_is : app_of c.in_ok-command.command ≡ made = c.in_ok-command.ensures in
    let passes : fault_of made words ≡ [] = ap (λ a. fault_of a words) (sym made_is) ∙ c.in-Ok.ensures.kinds (ap is_simple_and_free made_is ∙ made_is_free) in
    let found : subcommand_rows_of c.in-Ok.matches ≡ subcommand_of made words = (c.in-Ok.ensures.matches (ap is_simple made_is ∙ made_is_simple)).1 ∙ ap (λ a. subcommand_of a words) made_is in
    taken (asked_of words) words (outcome words (words_are_utf8 c.args.words.now)) passes _ found _ c.request_of.ensures.told

pub returns-in-Err-clause-asked : goal.returns-in-Err-clause-asked
returns-in-Err-clause-asked c =
    let words = map string_bytes c.args.words.now in
    let made_is : app_of c.in_ok-command.command ≡ made = c.in_ok-command.ensures in
    let kinds : HasKind (fault_of made words) c.in-Err.error = subst (λ a. HasKind (fault_of a words) c.in-Err.error) made_is (c.in-Err.ensures.kinds (ap is_simple_and_free made_is ∙ made_is_free)) in
    IfOk-weaker c.refused.result _ _ (λ r h. ap told_of h.0 ∙ refused (asked_of words) words (outcome words (words_are_utf8 c.args.words.now)) _ kinds (λ e. h.1 (c.kind.ensures ∙ e))) c.refused.ensures
