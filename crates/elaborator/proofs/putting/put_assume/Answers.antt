use Rattle.std.proofs.Common.{sym, ◌∙◌, ap, subst}
use Rattle.rule_model.specs.WellFormed.{IsNewId}
use Rattle.elaborator.specs.Names.{name_of}
use Rattle.elaborator.specs.Reached.{state_of}
use Rattle.elaborator.proofs.Tidy.{new_id}
use Rattle.elaborator.proofs.putting.put_assume.Goals as goal

pub assume-requires-clause-id : goal.assume-requires-clause-id
assume-requires-clause-id c =
    subst (IsNewId c.args.written.now.builder.nesting c.args.written.now.builder.items) (sym (c.id_of-id.ensures ∙ ap name_of c.new_name.ensures))
    (new_id (state_of c.args.written.now) c.requires.tidy c.requires.few)
