use Rattle.std.proofs.Common.{◌∙◌, ◌++◌, ap, length}
use Rattle.hole_questions.specs.Declarations.{sort_lines, check_line}
use Rattle.hole_questions.proofs.DeclarationLists.{four_parts}
use Rattle.hole_questions.proofs.questions.joined.Goals as goal

pub returns : goal.returns
returns c =
    four_parts (sort_lines (length c.args.declarations.now.sorts.keys)) c.args.declarations.now.text.items c.args.asserts.now check_line
    c.write_sorts.new.text.items c.extend_from_slice.new.self.items c.extend_from_slice-2.new.self.items c.extend_from_slice-3.new.self.items
    (c.in_ok-write_sorts.ensures ∙ (ap (λ x. x ++ sort_lines c.len.result) c.new-text.ensures.items ∙ ap sort_lines c.len.ensures.len))
    (c.in_ok-extend_from_slice.ensures.items ∙ ap (λ x. c.write_sorts.new.text.items ++ x) c.deref.ensures.value)
    c.in_ok-extend_from_slice-2.ensures.items c.in_ok-extend_from_slice-3.ensures.items
