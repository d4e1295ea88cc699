use Rattle.std.proofs.Common.{◌≡◌, ◌≢◌, ◌∙◌, List, [], length, sym}
use Rattle.std.proofs.lemmas.Bool.{OnTrue_at, OnFalse_at, OnTrue_from, OnFalse_from}
use Rattle.std.specs.Bool.{OnTrue, OnFalse}
use Rattle.rule_model.specs.Congruence.{Head, applied}
use Rattle.schema_match.specs.ArgumentCells.{IsListOf}
use Rattle.sym_table.specs.Table.{Table, IsTable}
use Rattle.term_model.specs.Terms.{Term}
use Rattle.term_pool.specs.Reading.{arguments_of}
use Rattle.term_pool.specs.Views.{RefersTo}
use Rattle.rules_congruence.specs.Applications.{AreApplied, AreCut}
use Rattle.rules_congruence.proofs.ApplicationLemmas.{no_let, arguments_are, are_applied, head_is_no_let}
use Rattle.rules_congruence.proofs.CutLemmas.{are_lists, some_longer}
use Rattle.rules_congruence.proofs.Options.{if_ok}
use Rattle.rules_congruence.proofs.applications.Applications.read.Goals as goal

pub returns-in_default-clause-other : goal.returns-in_default-clause-other
returns-in_default-clause-other c t u left right head ts us some e f =
    absurd (c.in_default.ensures.other t u left right head ts us e f)

pub returns-in_default-list_of-clause-other : goal.returns-in_default-list_of-clause-other
returns-in_default-list_of-clause-other c t u left right head ts us some e f =
    absurd (some (sym (arguments_are head ts t e)
    ∙ (rw c.common_head.ensures.same at c.in_default-list_of.ensures.none) c.args.symbols.now t left (no_let head ts t e)))

pub returns-in_default-list_of-2-clause-other : goal.returns-in_default-list_of-2-clause-other
returns-in_default-list_of-2-clause-other c t u left right head ts us some e f =
    some_longer ts us some
    (sym (arguments_are head us u f)
    ∙ (rw (c.list_of.ensures.same, c.common_head.ensures.same) at c.in_default-list_of-2.ensures.none) c.args.symbols.now u right (no_let head us u f))

pub read_both-requires : goal.read_both-requires
read_both-requires c =
    let s = c.args.symbols.now in
    let t = c.requires.left.means in
    let u = c.requires.right.means in
    let heads = c.in-Some.ensures.head t u c.requires.left.refers c.requires.right.refers in
    rw (c.list_of-2.ensures.same, c.list_of.ensures.same, c.common_head.ensures.same)
    (are_lists s c.args.terms.now c.in-Some-list_of.first c.in-Some-list_of-2.second (arguments_of t) (arguments_of u)
    ((rw c.common_head.ensures.same at c.in-Some-list_of.ensures.list) s t c.requires.left.refers (head_is_no_let s c.in-Some.head t heads.0))
    ((rw (c.list_of.ensures.same, c.common_head.ensures.same) at c.in-Some-list_of-2.ensures.list) s u c.requires.right.refers (head_is_no_let s c.in-Some.head u heads.1)))

pub returns-clause-applied : goal.returns-clause-applied
returns-clause-applied c =
    let s = c.args.symbols.now in
    let v = c.args.terms.now in
    let table = c.leaves_differ.ensures.table in
    let first = rw c.common_head.ensures.same at c.in-Some-list_of.ensures.list in
    let second = rw (c.list_of.ensures.same, c.common_head.ensures.same) at c.in-Some-list_of-2.ensures.list in
    let some = rw c.common_head.ensures.same at c.in-Some-list_of.ensures.some in
    let new = c.read_both.new in
    if_ok (λ yes. OnTrue yes ((z : Table) (ts us : List Term) → IsTable z → IsListOf z v c.in-Some-list_of.first ts → IsListOf z v c.in-Some-list_of-2.second us → AreCut z v c.args.uses new.left.items new.right.items ts us))
    (λ yes. OnTrue yes ((t u : Term) → RefersTo s v c.args.left t → RefersTo s v c.args.right u → AreApplied s v c.args.uses c.in-Some.head new.left.items new.right.items t u))
    c.read_both.result
    (λ yes h. OnTrue_from yes _ (λ e t u left right.
    let heads = c.in-Some.ensures.head t u left right in
    let fails = head_is_no_let s c.in-Some.head t heads.0 in
    are_applied s v c.args.uses c.in-Some.head new.left.items new.right.items t u (some s t left fails) heads.0 heads.1
    (OnTrue_at e h s (arguments_of t) (arguments_of u) table (first s t left fails) (second s u right (head_is_no_let s c.in-Some.head u heads.1)))))
    (rw (c.list_of-2.ensures.same, c.list_of.ensures.same, c.common_head.ensures.same) at c.read_both.ensures.cut)

pub returns-clause-other : goal.returns-clause-other
returns-clause-other c =
    let s = c.args.symbols.now in
    let v = c.args.terms.now in
    let first = rw c.common_head.ensures.same at c.in-Some-list_of.ensures.list in
    let second = rw (c.list_of.ensures.same, c.common_head.ensures.same) at c.in-Some-list_of-2.ensures.list in
    if_ok (λ yes. OnFalse yes ((z : Table) (ts us : List Term) → IsListOf z v c.in-Some-list_of.first ts → IsListOf z v c.in-Some-list_of-2.second us → length ts ≢ length us))
    (λ yes. OnFalse yes ((t u : Term) → RefersTo s v c.args.left t → RefersTo s v c.args.right u → (head : Head) (ts us : List Term) → ts ≢ [] → t ≡ applied head ts → u ≡ applied head us → length ts ≢ length us))
    c.read_both.result
    (λ yes h. OnFalse_from yes _ (λ e t u left right head ts us some is also.
    rw (← arguments_are head ts t is, ← arguments_are head us u also)
    (OnFalse_at e h s (arguments_of t) (arguments_of u) (first s t left (no_let head ts t is)) (second s u right (no_let head us u also)))))
    (rw (c.list_of-2.ensures.same, c.list_of.ensures.same, c.common_head.ensures.same) at c.read_both.ensures.other)
