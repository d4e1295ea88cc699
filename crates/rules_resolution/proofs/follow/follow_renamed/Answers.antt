use Rattle.std.proofs.Common.{◌-◌, ℕ, List, length, ◌∙◌, ap, arith, length-append}
use Rattle.clause_chain.specs.Chaining.{clauses_of}
use Rattle.rules_resolution.specs.Renaming.{renamed_from, renamed_in, joined_clauses}
use Rattle.rules_resolution.proofs.Renamings.{shown_before, none_before}
use Rattle.rules_resolution.proofs.follow.follow_renamed.Goals as goal

pub returns-clause-shown : goal.returns-clause-shown
returns-clause-shown c =
    let total = length-append (joined_clauses (clauses_of c.args.premises.now)) c.args.goal.now in
    let count = c.requires.count in
    shown_before (clauses_of c.args.premises.now) c.args.goal.now c.in_ok-names.names.items (c.args.count - length c.args.goal.now) c.in_ok-names.ensures (omega arith)
    (clauses_of c.rename_all.new.premises) c.rename_here.new.clause
    (c.rename_all.ensures.renamed ∙ ap (λ (names : List ℕ). renamed_in names 0 (clauses_of c.args.premises.now)) c.deref.ensures.value)
    (c.rename_here.ensures ∙ ap (λ (names : List ℕ). renamed_from names (c.args.count - length c.args.goal.now) c.args.goal.now) c.deref-2.ensures.value)
    c.follow_plainly.result c.follow_plainly.ensures.shown

pub returns-clause-none : goal.returns-clause-none
returns-clause-none c =
    let total = length-append (joined_clauses (clauses_of c.args.premises.now)) c.args.goal.now in
    let count = c.requires.count in
    none_before (clauses_of c.args.premises.now) c.args.goal.now c.in_ok-names.names.items (c.args.count - length c.args.goal.now) c.in_ok-names.ensures (omega arith)
    (clauses_of c.rename_all.new.premises) c.rename_here.new.clause
    (c.rename_all.ensures.renamed ∙ ap (λ (names : List ℕ). renamed_in names 0 (clauses_of c.args.premises.now)) c.deref.ensures.value)
    (c.rename_here.ensures ∙ ap (λ (names : List ℕ). renamed_from names (c.args.count - length c.args.goal.now) c.args.goal.now) c.deref-2.ensures.value)
    c.follow_plainly.result c.follow_plainly.ensures.none
