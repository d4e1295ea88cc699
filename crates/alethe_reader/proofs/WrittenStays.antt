-- What is written of a proof stands for the same as the table and the pool grow, and has the ids of the
-- proof over terms.
use Rattle.std.proofs.Common.{◌≡◌, ℕ, List, Option, Some, None, refl, ◌∙◌, subst}
use Rattle.std.specs.List.{AllZip}
use Rattle.sym_table.specs.Table.{Table, Keeps}
use Rattle.term_model.specs.Terms.{Var, Term}
use Rattle.term_pool.specs.Views.{TermsView, KeepsTerms}
use Rattle.rule_model.specs.Proofs.{ProofItems, with_assume, with_step, with_subproof}
use Rattle.rule_model.specs.Scopes.{Nesting, outermost, inside, Scope, first_index, scope_number, commands_in}
use Rattle.term_pool.specs.Bindings.{IsBindingOf}
use Rattle.proof_store.specs.Meaning.{StandForItems, no_items_stand, assume_stands, step_stands, subproof_stands}
use Rattle.term_model.proofs.Zips.{zip_weaken}
use Rattle.term_reader.proofs.Staying.{refers_stays}
use Rattle.alethe_text.specs.States.{ProofState}
use Rattle.alethe_reader.specs.declared.session.Session.{Session}
use Rattle.alethe_reader.specs.Bound.{AreAnchorsBound, images_in}
use Rattle.alethe_reader.specs.declared.bound.BoundVariables.{BoundVariables}
use Rattle.alethe_reader.specs.declared.ids.Found.{Found}
use Rattle.alethe_reader.specs.Ids.{Used, IsUnused, IsUsedAt, IsIdFound}
use Rattle.alethe_reader.specs.IdsInUse.{own_ids, ids_around, ids_in}
use Rattle.alethe_reader.specs.Sessions.{StandForNesting, IsWritten}
use Rattle.proof_store.proofs.MeaningLemmas.{commands_same, subproofs_same, items_stay}
use Rattle.term_expansion.specs.SymbolsAndTerms.{both}

module _ (s z : Table) (v w : TermsView) (table : Keeps s z) (terms : KeepsTerms v w) where
  pub bindings_stay : (bs : List (ℕ × ℕ)) (cs : List (Var × Term)) → AllZip (IsBindingOf s v) bs cs → AllZip (IsBindingOf z w) bs cs
  bindings_stay = zip_weaken (IsBindingOf s v) (IsBindingOf z w)
      (λ b c h. record { variable = table.leaves b.0 _ h.variable; term = refers_stays s z v w table terms b.1 c.1 h.term })

  pub stored_stay : (is : ProofItems ℕ ℕ) (ps : ProofItems Var Term) → StandForItems s v is ps → StandForItems z w is ps
  stored_stay is ps h = items_stay s z v w table (refers_stays s z v w table terms) is ps h

  pub nesting_stays : (n : Nesting ℕ ℕ) (m : Nesting Var Term) → StandForNesting (both s v) n m → StandForNesting (both z w) n m
  nesting_stays outermost outermost h = h
  nesting_stays outermost (inside around before anchor) h = absurd h
  nesting_stays (inside around before anchor) outermost h = absurd h
  nesting_stays (inside around before anchor) (inside outer behind other) h = (
    nesting_stays around outer h.0,
    stored_stay before behind h.1,
    h.2,
    bindings_stay anchor.bindings other.bindings h.3,
  )

  bound_stays : (b : BoundVariables) (n : Nesting Var Term) → AreAnchorsBound (both s v) b n → AreAnchorsBound (both z w) b n
  bound_stays b n h = record { names = h.names; images = bindings_stay b.images.items (images_in n) h.images; apart = h.apart }

  pub written_stays : (d : Session) (p : ProofState) → IsWritten (both s v) d p → IsWritten (both z w) d p
  written_stays d p h = record {
    nesting = nesting_stays d.builder.nesting p.scope.nesting h.nesting;
    items = stored_stay d.builder.items p.scope.items h.items;
    ids = h.ids;
    places = h.places;
    starts_kept = h.starts_kept;
    counts_kept = h.counts_kept;
    bound = bound_stays d.bound p.scope.nesting h.bound;
  }

-- the ids in use, by references and by terms
module _ (s : Table) (v : TermsView) where
  pub first_same : (n : Nesting ℕ ℕ) (m : Nesting Var Term) → StandForNesting (both s v) n m → first_index n ≡ first_index m
  first_same outermost outermost h = refl
  first_same outermost (inside around before anchor) h = absurd h
  first_same (inside around before anchor) outermost h = absurd h
  first_same (inside around before anchor) (inside outer behind other) h =
      let a = first_same around outer h.0 in let b = commands_same s v before behind h.1 in cc

  pub number_same : (n : Nesting ℕ ℕ) (m : Nesting Var Term) → StandForNesting (both s v) n m → scope_number n ≡ scope_number m
  number_same outermost outermost h = refl
  number_same outermost (inside around before anchor) h = absurd h
  number_same (inside around before anchor) outermost h = absurd h
  number_same (inside around before anchor) (inside outer behind other) h =
      let a = number_same around outer h.0 in let b = subproofs_same s v before behind h.1 in cc

  own_same : (n : Nesting ℕ ℕ) (m : Nesting Var Term) → first_index n ≡ first_index m → (is : ProofItems ℕ ℕ) (ps : ProofItems Var Term) → StandForItems s v is ps → own_ids n is ≡ own_ids m ps
  own_same n m e _ _ no_items_stand = refl
  own_same n m e _ _ (assume_stands is ps id r t h refers) = joined (own_same n m e is ps h) (e) (commands_same s v is ps h)
    where
      joined : own_ids n is ≡ own_ids m ps → first_index n ≡ first_index m → commands_in is ≡ commands_in ps → own_ids n (with_assume is id r) ≡ own_ids m (with_assume ps id t)
      joined a b c = cc
  own_same n m e _ _ (step_stands is ps step of h stands) = joined (own_same n m e is ps h) e (commands_same s v is ps h) stands.id
    where
      joined : own_ids n is ≡ own_ids m ps → first_index n ≡ first_index m → commands_in is ≡ commands_in ps → step.id ≡ of.id → own_ids n (with_step is step) ≡ own_ids m (with_step ps of)
      joined a b c d = cc
  own_same n m e _ _ (subproof_stands is ps bs cs within proof step of h b g stands) =
      joined (own_same n m e is ps h) e (commands_same s v is ps h) (commands_same s v within proof g) stands.id
    where
      joined : own_ids n is ≡ own_ids m ps → first_index n ≡ first_index m → commands_in is ≡ commands_in ps → commands_in within ≡ commands_in proof → step.id ≡ of.id
          → own_ids n (with_subproof is bs within step) ≡ own_ids m (with_subproof ps cs proof of)
      joined a b c d f = cc

  around_same : (n : Nesting ℕ ℕ) (m : Nesting Var Term) → StandForNesting (both s v) n m → ids_around n ≡ ids_around m
  around_same outermost outermost h = refl
  around_same outermost (inside around before anchor) h = absurd h
  around_same (inside around before anchor) outermost h = absurd h
  around_same (inside around before anchor) (inside outer behind other) h =
      joined (around_same around outer h.0) (own_same around outer (first_same around outer h.0) before behind h.1)
      (number_same (inside around before anchor) (inside outer behind other) h) h.2
    where
      joined : ids_around around ≡ ids_around outer → own_ids around before ≡ own_ids outer behind → scope_number (inside around before anchor) ≡ scope_number (inside outer behind other) → anchor.id ≡ other.id
          → ids_around (inside around before anchor) ≡ ids_around (inside outer behind other)
      joined a b c d = cc

  pub ids_same : (d : Scope ℕ ℕ) (p : Scope Var Term) → StandForNesting (both s v) d.nesting p.nesting → StandForItems s v d.items p.items → ids_in d ≡ ids_in p
  ids_same d p n i =
      let a = around_same d.nesting p.nesting n in let b = own_same d.nesting p.nesting (first_same d.nesting p.nesting n) d.items p.items i in cc

  -- what is written has the ids of the state
  pub written_ids : (d : Session) (p : ProofState) → IsWritten (both s v) d p → d.ids.used ≡ ids_in p.scope
  written_ids d p h = h.ids ∙ ids_same d.builder p.scope h.nesting h.items

  -- what is found among the ids in use is found among those of the state
  pub found_now : (d : Session) (p : ProofState) (id : List ℕ) (o : Option Found) → IsIdFound d.ids.used id o → IsWritten (both s v) d p → IsIdFound (ids_in p.scope) id o
  found_now d p id o h w = subst (λ us. IsIdFound us id o) (written_ids d p w) h

-- an id of which nothing is found is not in use
pub unused_now : (used : List Used) (id : List ℕ) (o : Option Found) → IsIdFound used id o → o ≡ None → IsUnused used id
unused_now used id o h none = subst (IsIdFound used id) none h

pub used_here : (used : List Used) (id : List ℕ) (o : Option Found) (f : Found) → IsIdFound used id o → o ≡ Some f → IsUsedAt used id f
used_here used id o f h some = subst (IsIdFound used id) some h
