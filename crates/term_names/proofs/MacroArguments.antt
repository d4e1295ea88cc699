-- What is put in for the parameters of a macro, and what comes of it.
use Rattle.std.proofs.Common.{◌≡◌, ℕ, zero, suc, ◌+◌, ◌<◌, List, [], ◌∷◌, ◌++◌, length, map, zip, take, drop, get_or, slice_get, Bool, true, false, if◌then◌else◌, Option, Some, None, Result, Ok, Err, refl, sym, ◌∙◌, ap, subst, arith}
use Rattle.std.proofs.lemmas.List.{length-map}
use Rattle.std.proofs.lemmas.Slice.Zip.{AllZip-long}
use Rattle.sexpr.specs.declared.causes.Refusal.{Refusal}
use Rattle.sym_table.specs.Table.{Table}
use Rattle.term_model.specs.declared.symbols.Sort.{Sort}
use Rattle.term_model.specs.Terms.{Var}
use Rattle.term_model.specs.Sorts.{sorts_eq}
use Rattle.term_model.proofs.Tests.{sorts_eq_decides}
use Rattle.term_pool.specs.Views.{TermsView}
use Rattle.term_names.specs.Applying.{bounds_of}
use Rattle.term_pool.specs.Placing.{PlacesTerm, LacksRoomFor}
use Rattle.term_names.specs.Making.{Makes}
use Rattle.problem_text.specs.Names.{macro, sorts_of, expansion, meaning_applied}
use Rattle.rule_model.specs.Replacement.{Replacement, replaced}
use Rattle.problem_text.specs.TypedTerms.{Typed}
use Rattle.problem_text.specs.Scripts.{Macro}
use Rattle.term_names.specs.Standing.{AreLeavesOf, IsMacroOf}
use Rattle.term_expansion.specs.Values.{IsValue, AreValues, IsReplacement}
use Rattle.term_names.specs.declared.entries.Macro as held
use Rattle.term_names.specs.declared.faults.ReadFault.{ReadFault}
use Rattle.term_expansion.specs.declared.values.Bound.{Bound}
use Rattle.term_expansion.specs.declared.values.Value.{Value}
use Rattle.term_names.proofs.AppliedSymbols.{values-sorts}
use Rattle.term_names.proofs.MadeTerms.{places-cells, unchanged}
use Rattle.term_expansion.specs.SymbolsAndTerms.{both}

-- an item behind a place
pub slice-drop : {X : Type 0} (xs : List X) (n i m : ℕ) (x : X) → m ≡ n + i → slice_get xs m ≡ Some x → slice_get (drop n xs) i ≡ Some x
slice-drop xs zero i m x e h = let same : m ≡ i = omega arith in subst (λ k. slice_get xs k ≡ Some x) same h
slice-drop [] (suc n) i m x e h = absurd cc
slice-drop (a ∷ xs) (suc n) i zero x e h = absurd (omega arith)
slice-drop (a ∷ xs) (suc n) i (suc m) x e h = slice-drop xs n i m x (omega arith) h

-- one more parameter
pub bounds-next : (ks : List ℕ) (cs : List Value) (i d : ℕ) (c : Value) → i < length ks → slice_get cs i ≡ Some c → bounds_of (take (suc i) ks) cs ≡ bounds_of (take i ks) cs ++ record { variable = get_or ks i d; value = c } ∷ []
bounds-next [] cs i d c below h = absurd (omega arith)
bounds-next (k ∷ ks) [] i d c below h = absurd cc
bounds-next (k ∷ ks) (a ∷ cs) zero d c below h = let same : a ≡ c = cc in ap (λ b. record { variable = k; value = b } ∷ []) same
bounds-next (k ∷ ks) (a ∷ cs) (suc i) d c below h = ap (λ bs. record { variable = k; value = a } ∷ bs) (bounds-next ks cs i d c (omega arith) h)

arguments-replace : (s : Table) (v : TermsView) (ks : List ℕ) (cs : List Value) (xs : List Var) (ts : List Typed) → AreLeavesOf s ks xs → AreValues (both s v) cs ts → map (λ x. x.sort) xs ≡ sorts_of ts → IsReplacement (both s v) (bounds_of ks cs) (zip xs (map (λ t. t.tree) ts))
arguments-replace s v [] cs [] ts h g e = tt
arguments-replace s v [] cs (x ∷ xs) ts h g e = absurd h
arguments-replace s v (k ∷ ks) cs [] ts h g e = absurd h
arguments-replace s v (k ∷ ks) [] (x ∷ xs) [] h g e = absurd cc
arguments-replace s v (k ∷ ks) [] (x ∷ xs) (t ∷ ts) h g e = absurd g
arguments-replace s v (k ∷ ks) (c ∷ cs) (x ∷ xs) [] h g e = absurd g
arguments-replace s v (k ∷ ks) (c ∷ cs) (x ∷ xs) (t ∷ ts) h g e =
    let first : x.sort ≡ t.sort = cc in
    let rest : map (λ x. x.sort) xs ≡ sorts_of ts = cc in
    let is = g.0 in (
      record { leaf = h.0; value = record { refers = is.refers; sort = is.sort ∙ sym first; high = is.high; plain = is.plain } },
      arguments-replace s v ks cs xs ts h.1 g.1 rest,
    )

-- a macro may be applied exactly to terms of its parameters' sorts
macro-applied : (m : Macro) (ts : List Typed) → sorts_eq (map (λ x. x.sort) m.parameters) (sorts_of ts) ≡ true → meaning_applied (macro m) ts ≡ Some (record { tree = expansion m ts; sort = m.target })
unfolding meaning_applied
macro-applied m ts e = ap (λ b. if b then Some (record { tree = expansion m ts; sort = m.target }) else None) e

macro-refused : (m : Macro) (ts : List Typed) → sorts_eq (map (λ x. x.sort) m.parameters) (sorts_of ts) ≡ false → meaning_applied (macro m) ts ≡ None
unfolding meaning_applied
macro-refused m ts e = ap (λ b. if b then Some (record { tree = expansion m ts; sort = m.target }) else None) e

expansion-made : (s : Table) (old new : TermsView) (t : Typed) (c : Value) → PlacesTerm s old.pass new.pass t.tree → IsValue (both s new) c t → Makes old (both s new) (Some t) (Ok (Some c))
expansion-made s old new t c h is = record {
  answer = (t, refl, is);
  placed = places-cells s old.pass new.pass t h.tree h.stands h.placed;
}

expansion-refused : (s : Table) (old new : TermsView) (t : Typed) (e : ReadFault) → PlacesTerm s old.pass new.pass t.tree → (e ≡ ReadFault.PoolFull → LacksRoomFor s new.pass t.tree) → ((r : Refusal) → e ≡ ReadFault.Text r → ⊥) → Makes old (both s new) (Some t) (Err e)
expansion-refused s old new t (ReadFault.Text r) h full text = absurd (text r refl)
expansion-refused s old new t ReadFault.PoolFull h full text =
    let no_room = full refl in
    record {
      answer = record { whole = t.tree; wanted = (t, refl, refl); tree = no_room.tree; stands = no_room.stands; full = no_room.full };
      placed = places-cells s old.pass new.pass t h.tree h.stands h.placed;
    }
expansion-refused s old new t ReadFault.Memory h full text = record {
  answer = tt;
  placed = places-cells s old.pass new.pass t h.tree h.stands h.placed;
}

leaves-lengths : (s : Table) (ks : List ℕ) (xs : List Var) → AreLeavesOf s ks xs → length ks ≡ length xs
leaves-lengths s ks xs h = sym (AllZip-long _ ks xs h)

-- A macro whose parameters' sorts were compared with those of values: `first` and `second` are the sorts, and `fits` tells
-- whether they are the same.
module _ (s : Table) (v : TermsView) (h : held.Macro) (d : Macro) (cs : List Value) (ts : List Typed) (is : IsMacroOf (both s v) h d) (values : AreValues (both s v) cs ts)
    (first second : List Sort) (own : first ≡ h.sorts.items) (given : second ≡ map (λ c. c.sort) cs) (fits : Bool) (tested : fits ≡ sorts_eq first second) where
  values-given : second ≡ sorts_of ts
  values-given = given ∙ values-sorts s v cs ts values

  parameters-given : first ≡ map (λ x. x.sort) d.parameters
  parameters-given = own ∙ is.sorts

  same-test : sorts_eq (map (λ x. x.sort) d.parameters) (sorts_of ts) ≡ fits
  same-test = sym (tested ∙ (λ i. sorts_eq (parameters-given i) (values-given i)))

  same-sorts : fits ≡ true → map (λ x. x.sort) d.parameters ≡ sorts_of ts
  same-sorts e = (sorts_eq_decides (map (λ x. x.sort) d.parameters) (sorts_of ts)).0 (same-test ∙ e)

  pub sorts-differ : fits ≡ false → Makes v (both s v) (meaning_applied (macro d) ts) (Ok None)
  sorts-differ e = unchanged s v (meaning_applied (macro d) ts) (Ok None) (macro-refused d ts (same-test ∙ e))

  pub one-each : fits ≡ true → length h.parameters.items ≡ length cs
  one-each e =
      let leaves = leaves-lengths s h.parameters.items d.parameters is.parameters in
      let parameters = length-map d.parameters (λ x. x.sort) in
      let own_sorts = values-sorts s v cs ts values in
      let items = length-map cs (λ c. c.sort) in
      let same = ap length (same-sorts e ∙ sym own_sorts) in
      omega arith

  pub arguments-put : fits ≡ true → (bounds : List Bound) → bounds ≡ bounds_of h.parameters.items cs → IsReplacement (both s v) bounds (zip d.parameters (map (λ t. t.tree) ts))
  arguments-put e bounds put =
      subst (λ bs. IsReplacement (both s v) bs (zip d.parameters (map (λ t. t.tree) ts))) (sym put)
      (arguments-replace s v h.parameters.items cs d.parameters ts is.parameters values (same-sorts e))

  module _ (fit : fits ≡ true) (new : TermsView) (bounds : List Bound) (put : bounds ≡ bounds_of h.parameters.items cs)
      (places : (t : Typed) (q : Replacement) → IsValue (both s v) h.body t → IsReplacement (both s v) bounds q → PlacesTerm s v.pass new.pass (replaced q t.tree)) where
    abbrev body : Typed
    body = record { tree = d.body; sort = d.target }

    pub macro-made : (c : Value)
        → ((t : Typed) (q : Replacement) → IsValue (both s v) h.body t → IsReplacement (both s v) bounds q → IsValue (both s new) c (record { tree = replaced q t.tree; sort = t.sort }))
        → Makes v (both s new) (meaning_applied (macro d) ts) (Ok (Some c))
    macro-made c made =
        let q = zip d.parameters (map (λ t. t.tree) ts) in
        rw (macro-applied d ts (same-test ∙ fit))
        (expansion-made s v new (record { tree = expansion d ts; sort = d.target }) c (places body q is.body (arguments-put fit bounds put)) (made body q is.body (arguments-put fit bounds put)))

    pub macro-not-made : (result : Result (Option Value) ReadFault) (e : ReadFault)
        → ((t : Typed) (q : Replacement) → IsValue (both s v) h.body t → IsReplacement (both s v) bounds q → e ≡ ReadFault.PoolFull → LacksRoomFor s new.pass (replaced q t.tree))
        → ((r : Refusal) → e ≡ ReadFault.Text r → ⊥)
        → result ≡ Err e
        → Makes v (both s new) (meaning_applied (macro d) ts) result
    macro-not-made result e full text same =
        let q = zip d.parameters (map (λ t. t.tree) ts) in
        rw (macro-applied d ts (same-test ∙ fit), same)
        (expansion-refused s v new (record { tree = expansion d ts; sort = d.target }) e (places body q is.body (arguments-put fit bounds put))
        (full body q is.body (arguments-put fit bounds put)) text)
