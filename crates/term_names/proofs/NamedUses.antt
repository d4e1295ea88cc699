-- A named term where it is used.
use Rattle.std.proofs.Common.{◌≡◌, inl, inr, List, [], if◌then◌else◌, Option, Some, Result, Ok, Err, true, false, ap, subst, refl, sym, ◌∙◌}
use Rattle.std.proofs.lemmas.Option.{same_Some}
use Rattle.sexpr.specs.declared.causes.Refusal.{Refusal}
use Rattle.std.specs.List.{list_all}
use Rattle.pair_pool.specs.Views.{PassView}
use Rattle.sym_table.specs.Table.{Table}
use Rattle.term_model.specs.Terms.{Var}
use Rattle.term_pool.specs.Views.{TermsView}
use Rattle.term_names.specs.BoundLeaves.{PutsInBound}
use Rattle.term_expansion.specs.Free.{AreFreeLeaves}
use Rattle.term_expansion.specs.Images.{IsSomeReplacement}
use Rattle.term_pool.specs.Placing.{PlacesTerm, LacksRoomFor, PlacesCellsOf}
use Rattle.term_names.specs.LookingUp.{term_used, IsNamedMeant}
use Rattle.term_names.specs.Making.{IsMade, Makes, IsExpected}
use Rattle.problem_text.specs.Names.{Place, Meaning, value, is_bound, replacement, meaning_applied}
use Rattle.rule_model.specs.Replacement.{Replacement, replaced, free_variables}
use Rattle.problem_text.specs.TypedTerms.{Typed}
use Rattle.term_expansion.specs.Values.{IsValue, IsReplacement}
use Rattle.term_names.specs.declared.entries.Named as held
use Rattle.term_names.specs.declared.faults.ReadFault.{ReadFault}
use Rattle.term_expansion.specs.declared.values.Bound as holds
use Rattle.term_expansion.specs.declared.values.Value.{Value}
use Rattle.problem_text.proofs.Agreement.{replaced_agrees}
use Rattle.rule_model.proofs.Freedom.{free_variables-are}
use Rattle.term_expansion.specs.SymbolsAndTerms.{both}

pub applied_value : (m : Meaning) (t : Typed) → m ≡ value t → meaning_applied m [] ≡ Some t
unfolding meaning_applied
applied_value m t e = rw e refl

-- nothing is placed where nothing is done
pub answers : (s : Table) (v : TermsView) (o : Option Typed) (r : Result (Option Value) ReadFault) → IsMade (both s v) o r → Makes v (both s v) o r
answers s v o r h = record { answer = h; placed = λ q a b g. inl g }

-- where lets stay the named term stays as it is
pub named_stays : (s : Table) (v : TermsView) (p : Place) (n : held.Named) (m : Meaning) → p.settings.replaces_lets ≡ false → IsNamedMeant (both s v) p (Some n) m → IsMade (both s v) (meaning_applied m []) (Ok (Some n.value))
named_stays s v p n m lets (h, d, same, is, meant, bound) = (
  d.meant,
  applied_value m (term_used p d.meant) meant
      ∙ ap (λ b. Some (if b then record { tree = replaced (replacement p.scope) d.meant.tree; sort = d.meant.sort } else d.meant)) lets,
  subst (λ (c : held.Named). IsValue (both s v) c.value d.meant) (sym (same_Some _ _ same)) is.value,
)

-- the bounds that were gathered say what is put in for the free variables
abbrev pub PutsInFree : Table → TermsView → held.Named → List holds.Bound → Place → Type 0
PutsInFree s v n list p =
    (xs : List Var) → AreFreeLeaves s n.free.items xs → list_all (is_bound p.scope) xs ≡ true → PutsInBound (both s v) list p.scope xs

-- what a term with these bounds put in stands for, and is expected to
pub record IsPutIn (s : Table) (v : TermsView) (c : Value) (list : List holds.Bound) (o : Option Typed) : Type 0 where
  pub term : Typed
  pub means : Replacement
  pub is_value : IsValue (both s v) c term
  pub is : IsReplacement (both s v) list means
  pub made : o ≡ Some (record { tree = replaced means term.tree; sort = term.sort })

pub named_put_in : (s : Table) (v : TermsView) (p : Place) (n : held.Named) (m : Meaning) (list : List holds.Bound) → p.settings.replaces_lets ≡ true → IsNamedMeant (both s v) p (Some n) m → PutsInFree s v n list p → IsPutIn s v n.value list (meaning_applied m [])
named_put_in s v p n m list lets (h, d, same, is, meant, bound) puts =
    let free = subst (λ (c : held.Named). AreFreeLeaves s c.free.items (free_variables d.meant.tree)) (sym (same_Some _ _ same)) is.free in
    let put = puts (free_variables d.meant.tree) free bound in
    let agrees = replaced_agrees d.meant.tree put.means (replacement p.scope) (λ x there. put.same x ((free_variables-are x d.meant.tree).1 there)) in
    record {
      term = d.meant;
      means = put.means;
      is_value = subst (λ (c : held.Named). IsValue (both s v) c.value d.meant) (sym (same_Some _ _ same)) is.value;
      is = put.is;
      made =
          applied_value m (term_used p d.meant) meant
          ∙ ap (λ b. Some (if b then record { tree = replaced (replacement p.scope) d.meant.tree; sort = d.meant.sort } else d.meant)) lets
          ∙ ap (λ t. Some (record { tree = t; sort = d.meant.sort })) (sym agrees);
    }

pub some_replacement : (s : Table) (v : TermsView) (c : Value) (list : List holds.Bound) (o : Option Typed) → IsPutIn s v c list o → IsSomeReplacement (both s v) list
some_replacement s v c list o h = record { means = h.means; is = h.is }

-- the cells of the term that is expected
places_expected : (s : Table) (old new : PassView) (t : Typed) → PlacesTerm s old new t.tree → PlacesCellsOf s old new (IsExpected (Some t))
places_expected s old new t h q a b there =
    elim (h.placed q a b there) [
      | inl before ↦ inl before
      | inr part ↦ inr (record { whole = t.tree; wanted = (t, refl, refl); tree = h.tree; stands = h.stands; cell = part })
    ]

pub put_value : (s : Table) (v w : TermsView) (t : Typed) (c : Value) → IsValue (both s w) c t → PlacesTerm s v.pass w.pass t.tree → Makes v (both s w) (Some t) (Ok (Some c))
put_value s v w t c h places = record { answer = (t, refl, h); placed = places_expected s v.pass w.pass t places }

fault_is : (s : Table) (w : TermsView) (t : Typed) (e : ReadFault) → (e ≡ ReadFault.PoolFull → LacksRoomFor s w.pass t.tree) → ((r : Refusal) → e ≡ ReadFault.Text r → ⊥) → IsMade (both s w) (Some t) (Err e)
fault_is s w t (ReadFault.Text r) full text = absurd (text r refl)
fault_is s w t ReadFault.PoolFull full text =
    let lacks = full refl in record { whole = t.tree; wanted = (t, refl, refl); tree = lacks.tree; stands = lacks.stands; full = lacks.full }
fault_is s w t ReadFault.Memory full text = tt

pub put_fault : (s : Table) (v w : TermsView) (t : Typed) (e : ReadFault) → (e ≡ ReadFault.PoolFull → LacksRoomFor s w.pass t.tree) → ((r : Refusal) → e ≡ ReadFault.Text r → ⊥) → PlacesTerm s v.pass w.pass t.tree → Makes v (both s w) (Some t) (Err e)
put_fault s v w t e full text places = record { answer = fault_is s w t e full text; placed = places_expected s v.pass w.pass t places }
