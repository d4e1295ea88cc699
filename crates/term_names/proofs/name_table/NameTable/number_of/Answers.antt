-- The name has its number, or it gets the next one and means nothing yet.
use Rattle.std.proofs.Common.{◌≡◌, ◌∙◌, ◌<◌, ◌+◌, ◌++◌, [], ◌∷◌, None, position, inl, inr, refl, sym, ap, subst, slice_get, length, set, true, arith}
use Rattle.std.specs.Str.{bytes_eq}
use Rattle.std.proofs.lemmas.List.{length_push}
use Rattle.name_set.proofs.NewNames.{StandOnce-new_name}
use Rattle.sym_table.proofs.Places.{position-there}
use Rattle.term_names.specs.NameTable.{NameTableView, with_name, entries_of, mark_of, AreMarked}
use Rattle.term_names.proofs.HeldVariables.{slice_get-last}
use Rattle.term_names.proofs.Marks.{AreMarked-new}
use Rattle.term_names.proofs.NameEntries.{same_entries}
use Rattle.term_names.proofs.name_table.NameTable.number_of.Goals as goal

pub returns-in-Some-clause-numbered : goal.returns-in-Some-clause-numbered
returns-in-Some-clause-numbered c = record {
  number = position-there _ _ _ (sym c.in-Some.ensures.number);
  others = inl refl;
}

unnumbered : (c : goal.After-way_told-1) → position (bytes_eq c.args.name.now) c.self.inside.names ≡ None
unnumbered c =
    ap (λ (t : NameTableView). position (bytes_eq c.args.name.now) t.names) c.self.view_is
    ∙ sym c.in_default.ensures.number

entries : (c : goal.After-way_told-1) → c.push.new.self.items ≡ c.self.inside.entries.items ++ None ∷ []
entries c =
    let pushed = rw c.unwrap.ensures at c.push.ensures.items in
    pushed ∙ ap (λ es. es ++ None ∷ []) c.in_ok-reserve.ensures.items

places : (c : goal.After-way_told-1) → c.push-2.new.self.items ≡ c.self.inside.innermost.items ++ 0 ∷ []
places c =
    let pushed = rw c.unwrap-2.ensures at c.push-2.ensures.items in
    pushed ∙ ap (λ xs. xs ++ 0 ∷ []) c.in_ok-reserve-2.ensures.items

marked : (c : goal.After-way_told-1) → AreMarked c.add.new.self (set c.self.inside.marks c.mark_of.result true)
marked c =
    let all : length c.self.inside.marks ≡ 256 = c.self.told in
    let below : mark_of c.args.name.now < length c.self.inside.marks = omega (arith, all, c.mark_of.ensures.bound, c.mark_of.ensures.mark) in
    subst (λ m. AreMarked c.add.new.self (set c.self.inside.marks m true)) (sym c.mark_of.ensures.mark)
    (subst (λ ns. AreMarked ns (set c.self.inside.marks (mark_of c.args.name.now) true)) (sym c.in_ok-add.ensures.added)
    (AreMarked-new c.self.inside.names c.self.inside.marks c.args.name.now below c.self.invariant.marked))

pub invariant_of-self-2 : goal.invariant_of-self-2
invariant_of-self-2 c = record {
  entry_each = ap length (entries c) ∙ length_push _ _ ∙ ap (λ n. n + 1) c.self.invariant.entry_each ∙ sym (ap length c.in_ok-add.ensures.added ∙ length_push _ _);
  place_each = ap length (places c) ∙ length_push _ _ ∙ ap (λ n. n + 1) c.self.invariant.place_each ∙ sym (ap length c.in_ok-add.ensures.added ∙ length_push _ _);
  once = rw c.in_ok-add.ensures.added (StandOnce-new_name c.self.inside.names c.args.name.now c.self.invariant.once (unnumbered c));
  marked = marked c;
}

new_view : (c : goal.After-way_told-1) → record { names = c.add.new.self; entries = c.push.new.self.items; innermost = c.push-2.new.self.items } ≡ with_name c.args.self.now c.args.name.now
new_view c =
    let added = c.in_ok-add.ensures.added in
    (λ i. record { names = added i; entries = entries c i; innermost = places c i })
    ∙ ap (λ t. with_name t c.args.name.now) c.self.view_is

pub returns-clause-numbered : goal.returns-clause-numbered
returns-clause-numbered c = record {
  number = ap (λ ns. slice_get ns c.len-number.result) c.in_ok-add.ensures.added ∙ slice_get-last c.self.inside.names c.args.name.now c.len-number.result (sym c.len-number.ensures);
  others = inr (new_view c);
}

pub returns-clause-entries : goal.returns-clause-entries
returns-clause-entries c =
    ap entries_of (new_view c)
    ∙ ap (λ (t : NameTableView). entries_of (with_name t c.args.name.now)) (sym c.self.view_is)
    ∙ same_entries c.self.inside.names c.self.inside.entries.items c.args.name.now c.self.invariant.entry_each
    ∙ ap entries_of c.self.view_is
