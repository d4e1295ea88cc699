use Rattle.std.proofs.Common.{◌≡◌, ◌∙◌, inr, sym, subst, map, string_bytes, Some}
use Rattle.command_words.specs.Requests.{told}
use Rattle.filling_cli.specs.Filling.{MayFill}
use Rattle.filling_cli.specs.Words.{fill_of}
use Rattle.filling_cli.proofs.Spelled.{asked_by, none_begins}
use Rattle.filling_cli.proofs.filling.fill_words.Goals as goal

pub returns-then-not-begins_fill-clause-none : goal.returns-then-not-begins_fill-clause-none
returns-then-not-begins_fill-clause-none g c = λ e. none_begins (map string_bytes c.args.words.now) (sym c.begins_fill.ensures ∙ c.if-not-begins_fill.true)

pub fill_files-requires-clause-problem : goal.fill_files-requires-clause-problem
fill_files-requires-clause-problem g c lives longer =
    let t = rw c.in-Ok-Some.field-0-is at c.in-Ok-Some.ensures.asked in
    let is : fill_of (map string_bytes c.args.words.now) ≡ Some (told c.in-Ok-Some.asked) =
    asked_by (map string_bytes c.args.words.now) (map string_bytes c.in-Ok.spelled.items) _ (sym c.begins_fill.ensures ∙ c.if-not-begins_fill.false)
    c.in-Ok.ensures (rw c.deref.ensures.value at t) in
    (subst (MayFill (g.F.Folder.may_ask c.args.folder.now)) is c.requires.paths).0

pub fill_files-requires-clause-proof : goal.fill_files-requires-clause-proof
fill_files-requires-clause-proof g c lives longer =
    let t = rw c.in-Ok-Some.field-0-is at c.in-Ok-Some.ensures.asked in
    let is : fill_of (map string_bytes c.args.words.now) ≡ Some (told c.in-Ok-Some.asked) =
    asked_by (map string_bytes c.args.words.now) (map string_bytes c.in-Ok.spelled.items) _ (sym c.begins_fill.ensures ∙ c.if-not-begins_fill.false)
    c.in-Ok.ensures (rw c.deref.ensures.value at t) in
    (subst (MayFill (g.F.Folder.may_ask c.args.folder.now)) is c.requires.paths).1

pub returns-in-Ok-Some-clause-run : goal.returns-in-Ok-Some-clause-run
returns-in-Ok-Some-clause-run g c =
    let t = rw c.in-Ok-Some.field-0-is at c.in-Ok-Some.ensures.asked in
    let is : fill_of (map string_bytes c.args.words.now) ≡ Some (told c.in-Ok-Some.asked) =
    asked_by (map string_bytes c.args.words.now) (map string_bytes c.in-Ok.spelled.items) _ (sym c.begins_fill.ensures ∙ c.if-not-begins_fill.false)
    c.in-Ok.ensures (rw c.deref.ensures.value at t) in
    inr (told c.in-Ok-Some.asked, is, c.fill_files.ensures)

pub returns-in-Ok-None-clause-none : goal.returns-in-Ok-None-clause-none
returns-in-Ok-None-clause-none g c = λ e.
    let t = rw c.in-Ok-None.field-0-is at c.in-Ok-None.ensures.asked in
    asked_by (map string_bytes c.args.words.now) (map string_bytes c.in-Ok.spelled.items) _ (sym c.begins_fill.ensures ∙ c.if-not-begins_fill.false)
    c.in-Ok.ensures (rw c.deref.ensures.value at t)
