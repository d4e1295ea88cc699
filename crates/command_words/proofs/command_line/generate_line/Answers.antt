use Rattle.std.proofs.Common.{ap, true, ◌≡◌, ◌∙◌}
use Rattle.clap.specs.Simple.{Shape, app_of_fields, on_top}
use Rattle.clap.specs.declared.builder.command.Command.{Command}
use Rattle.clap.specs.declared.builder.command.Command.TheOpen.{Command-F}
use Rattle.clap.specs.declared.builder.command.Command.TheViews.{out-Command as fields_of}
use Rattle.command_words.proofs.command_line.generate_line.Goals as goal

abbrev settings : Command-F Command → Command-F Command
settings f = record f { no_binary_name = true; disable_help_flag = true; disable_help_subcommand = true }

abbrev settings_of_shape : Shape → Shape
settings_of_shape s = record s { no_binary_name = true; disable_help_flag = true; disable_help_subcommand = true }

pub returns : goal.returns
returns c =
    let set : fields_of c.disable_help_subcommand.result ≡ settings (fields_of c.in_ok-made.made) =
    c.disable_help_subcommand.ensures ∙ ap (λ (f : Command-F Command). record f { disable_help_subcommand = true }) (c.disable_help_flag.ensures
    ∙ ap (λ (f : Command-F Command). record f { disable_help_flag = true }) c.no_binary_name.ensures) in
    ap app_of_fields set ∙ ap (on_top settings_of_shape) c.in_ok-made.ensures.shape
