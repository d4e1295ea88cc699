-- The name is new, so it goes last.
use Rattle.std.proofs.Common.{◌≡◌, ◌∙◌, ◌++◌, [], ◌∷◌, List, ℕ, ap, sym, subst, length, position, bytes_eq, nat_eq, cond, Some, None, arith, rules}
use Rattle.std.proofs.lemmas.List.{length-map}
use Rattle.std.specs.List.{slice_range}
use Rattle.indexmap.specs.IndexSet.{insert_key}
use Rattle.name_set.specs.declared.names.Span.{Span}
use Rattle.name_set.specs.Keys.{names_of_spans, name_key, longer_number, AreBytes, AreIndexed}
use Rattle.name_set.proofs.KeyLists.{AreIndexed-new_name}
use Rattle.name_set.proofs.Texts.{names_of_spans-new_name, AreWithin-new_name}
use Rattle.name_set.proofs.names.NameSet.add.Goals as goal

abbrev names : goal.After-unwrap-3 → List (List ℕ)
names c = names_of_spans c.self.inside.text.items c.self.inside.spans.items

abbrev span : goal.After-unwrap-3 → Span
span c = record { start = c.len-start.result; end = c.len-end.result }

new : (c : goal.After-unwrap-3) → position (bytes_eq c.args.name.now) (names c) ≡ None
new c = ap (position (bytes_eq c.args.name.now)) c.self.view_is ∙ c.requires

-- what each table has got
grown : (c : goal.After-unwrap-3) → c.extend_from_slice.new.self.items ≡ c.self.inside.text.items ++ c.args.name.now
grown c =
    let appended = rw c.unwrap-2.ensures at c.extend_from_slice.ensures.items in
    appended ∙ ap (λ t. t ++ c.args.name.now) c.in_ok-reserve.ensures.items

pushed : (c : goal.After-unwrap-3) → c.push.new.self.items ≡ c.self.inside.spans.items ++ span c ∷ []
pushed c =
    let last = rw c.unwrap-3.ensures at c.push.ensures.items in
    last ∙ ap (λ ss. ss ++ span c ∷ []) c.in_ok-reserve-2.ensures.items

number : (c : goal.After-unwrap-3) → c.len-number.result ≡ length (names c)
number c =
    let count : c.len-number.result ≡ length c.self.inside.spans.items = search (rules, c.len-number.ensures) in
    count ∙ sym (length-map c.self.inside.spans.items (λ (s : Span). slice_range c.self.inside.text.items s.start s.end))

put : (c : goal.After-unwrap-3) → c.insert.new.self.keys ≡ insert_key nat_eq c.self.inside.keys.keys (name_key (length (names c)) c.args.name.now)
put c =
    let inserted = rw c.unwrap.ensures at c.insert.ensures.keys in
    inserted ∙ ap (λ ks. insert_key nat_eq ks c.in_ok-key.key) c.in_ok-reserve-3.ensures.keys
    ∙ ap (insert_key nat_eq c.self.inside.keys.keys) (c.in_ok-key.ensures.key ∙ ap (λ n. name_key n c.args.name.now) (number c))

start : (c : goal.After-unwrap-3) → c.len-start.result ≡ length c.self.inside.text.items
start c = search (rules, c.len-start.ensures)

end : (c : goal.After-unwrap-3) → c.len-end.result ≡ length c.extend_from_slice.new.self.items
end c = search (rules, c.len-end.ensures)

added : (c : goal.After-unwrap-3) → names_of_spans c.extend_from_slice.new.self.items c.push.new.self.items ≡ names c ++ c.args.name.now ∷ []
added c = names_of_spans-new_name _ _ _ _ _ (span c) (grown c) (pushed c) (start c) (end c) c.self.invariant.1

found : (c : goal.After-unwrap-3) → AreIndexed (names c ++ c.args.name.now ∷ []) c.insert.new.self.keys c.key_for.new.longer.entries
found c =
    let was = c.self.inside.longer.entries in
    let bytes : AreBytes c.args.name.now = record { byte = λ i. omega (arith, c.type_inv.name i) } in
    AreIndexed-new_name _ _ _ _ _ _ c.self.invariant.0 bytes (new c) (put c) c.in_ok-key.ensures.short
    (λ many other. c.in_ok-key.ensures.long many other ∙ ap (λ n. cond (bytes_eq other c.args.name.now) (Some n) (longer_number was other)) (number c))

pub invariant_of-self-2 : goal.invariant_of-self-2
invariant_of-self-2 c = (
  subst (λ ns. AreIndexed ns c.insert.new.self.keys c.key_for.new.longer.entries) (sym (added c)) (found c),
  AreWithin-new_name _ _ _ _ _ (span c) (grown c) (pushed c) (start c) (end c) c.self.invariant.1,
)

pub returns-clause-added : goal.returns-clause-added
returns-clause-added c = added c ∙ ap (λ ns. ns ++ c.args.name.now ∷ []) c.self.view_is
