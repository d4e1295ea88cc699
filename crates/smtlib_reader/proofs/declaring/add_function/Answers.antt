use Rattle.std.proofs.Common.{ap, ◌∙◌, Err}
use Rattle.smtlib_reader.proofs.DeclaredFunctions.{function_is_free}
use Rattle.smtlib_reader.proofs.declaring.add_function.Goals as goal

pub unreachable-requires : goal.unreachable-requires
unreachable-requires c =
    function_is_free c.args.symbols.now c.args.name.now c.requires.free.0 c.requires.free.1 (c.declare.ensures.repeated.0 (c.in-Err-Repeated.is ∙ ap Err c.in-Err-Repeated.field-0-is))
