use Rattle.std.proofs.Common.{◌∙◌, sym}
use Rattle.std.proofs.lemmas.Result.{on_ok_weaker}
use Rattle.term_sharing.proofs.NameLists.{noted_before, not_numbered, noted_now}
use Rattle.term_sharing.proofs.free_names.note.Goals as goal

pub returns-then-not-may_be_numbered : goal.returns-then-not-may_be_numbered
returns-then-not-may_be_numbered c =
    not_numbered c.args.names.now c.args.name.now c.may_be_numbered.result c.may_be_numbered.ensures c.if-not-may_be_numbered.true

pub returns-then-is_some : goal.returns-then-is_some
returns-then-is_some c =
    noted_before c.args.names.now c.args.name.now c.find.result c.find.ensures.number (sym c.is_some.ensures ∙ c.if-is_some.true)

pub returns : goal.returns
returns c = on_ok_weaker c.add.result (λ added. noted_now c.args.names.now c.add.new.self c.args.name.now added) c.add.ensures.added
