use Rattle.std.proofs.Common.{ap, ap₂, true, ◌≡◌, ◌∙◌}
use Rattle.std.proofs.lemmas.Result.{IfOk-weaker}
use Rattle.clap.specs.Simple.{App, Shape, app_of, app_of_fields, on_top, with_subcommand}
use Rattle.clap.specs.declared.builder.command.Command.{Command}
use Rattle.clap.specs.declared.builder.command.Command.TheOpen.{Command-F}
use Rattle.clap.specs.declared.builder.command.Command.TheViews.{out-Command as fields_of}
use Rattle.std.specs.Prelude.{codes}
use Rattle.command_words.specs.Made.{made_command, made_top, made_two}
use Rattle.command_words.proofs.command_line.command_line.Goals as goal

abbrev settings : Command-F Command → Command-F Command
settings f = record f {
  no_binary_name = true;
  disable_help_flag = true;
  disable_help_subcommand = true;
  subcommand_required = true;
}

abbrev settings_of_shape : Shape → Shape
settings_of_shape s = record s {
  no_binary_name = true;
  disable_help_flag = true;
  disable_help_subcommand = true;
  subcommand_required = true;
}

pub returns : goal.returns
returns c =
    let set : fields_of c.subcommand_required.result ≡ settings (fields_of c.new.result) =
    c.subcommand_required.ensures ∙ ap (λ (f : Command-F Command). record f { subcommand_required = true }) (c.disable_help_subcommand.ensures
    ∙ ap (λ (f : Command-F Command). record f { disable_help_subcommand = true }) (c.disable_help_flag.ensures
    ∙ ap (λ (f : Command-F Command). record f { disable_help_flag = true }) c.no_binary_name.ensures)) in
    let top_is : app_of c.subcommand_required.result ≡ on_top settings_of_shape (app_of c.new.result) = ap app_of_fields set in
    let one : app_of c.in_ok-subcommand.field-0 ≡ with_subcommand made_top (made_command (codes "check")).top =
    c.in_ok-subcommand.ensures.shape c.in_ok-check.ensures.local
    ∙ ap₂ with_subcommand (top_is ∙ ap (on_top settings_of_shape) c.new.ensures.app) (ap (λ (a : App). a.top) c.in_ok-check.ensures.shape) in
    let two : app_of c.in_ok-subcommand-2.field-0 ≡ made_two =
    c.in_ok-subcommand-2.ensures.shape c.in_ok-elaborate.ensures.local ∙ ap₂ with_subcommand one (ap (λ (a : App). a.top) c.in_ok-elaborate.ensures.shape) in
    let three : app_of c.in_ok-subcommand-3.field-0 ≡ with_subcommand made_two (made_command (codes "core")).top =
    c.in_ok-subcommand-3.ensures.shape c.in_ok-core.ensures.local ∙ ap₂ with_subcommand two (ap (λ (a : App). a.top) c.in_ok-core.ensures.shape) in
    IfOk-weaker c.subcommand-4.result _ _
    (λ m h. h.shape c.in_ok-prune.ensures.local ∙ ap₂ with_subcommand three (ap (λ (a : App). a.top) c.in_ok-prune.ensures.shape))
    c.subcommand-4.ensures
