-- The image of a variable, once its term was read.
use Rattle.std.proofs.Common.{◌≡◌, ◌≤◌, ◌<◌, arith, ℕ, zero, suc, nat_le, Bool, true, false, List, [], ◌∷◌, ◌++◌, map, slice_get, Option, Some, take, Ok, Err, refl, sym, ap, subst, ◌∙◌}
use Rattle.std.specs.List.{AllZip}
use Rattle.std.specs.Option.{option_map}
use Rattle.std.proofs.lemmas.Bool.{lt-leb, le-leb}
use Rattle.std.proofs.lemmas.List.Elements.{Contains-push}
use Rattle.pair_pool.specs.Views.{IsUnchanged}
use Rattle.sexpr.specs.declared.causes.Cause.TheVariants.{SortMismatch, TooHigh}
use Rattle.sexpr.specs.declared.causes.Refusal.{Refusal}
use Rattle.sym_table.specs.Table.{Table, IsTable}
use Rattle.sym_table.proofs.Tables.{keeps_table}
use Rattle.term_model.specs.declared.symbols.Sort.{Sort}
use Rattle.term_model.specs.Terms.{Var, Term}
use Rattle.term_pool.specs.Views.{TermsView, RefersTo, KeepsTerms}
use Rattle.term_pool.specs.declared.stop.TermStop.{TermStop}
use Rattle.term_model.specs.Heights.{height}
use Rattle.rule_model.specs.Replacement.{Replacement}
use Rattle.rule_model.specs.Scopes.{Nesting}
use Rattle.rule_model.specs.Substitution.{put_in}
use Rattle.term_pool.specs.Bindings.{IsBindingOf}
use Rattle.contexts.specs.PutIn.{StandForReplacement, AreReplacementBy}
use Rattle.term_pool.specs.Placing.{PlacesTerm, LacksRoomFor, PlacesCellsOf}
use Rattle.term_pool.proofs.PlacedCells.{places_none, places_then, places_of_term, lacks_for_term}
use Rattle.problem_text.specs.Limits.{most_height, is_low}
use Rattle.problem_text.specs.Outcomes.{Outcome, done}
use Rattle.problem_text.specs.Scripts.{with_term}
use Rattle.problem_text.specs.TypedTerms.{Typed}
use Rattle.term_expansion.specs.SymbolsAndTerms.{both}
use Rattle.term_expansion.specs.Values.{IsValue}
use Rattle.term_expansion.specs.declared.values.Value.{Value}
use Rattle.term_names.specs.Faults.{fault_of}
use Rattle.term_names.specs.declared.faults.ReadFault.{ReadFault}
use Rattle.alethe_text.specs.Anchors.{bound_names, image_of, script_changed}
use Rattle.alethe_text.specs.States.{ProofState, ◌>>=◌, give, demand}
use Rattle.alethe_reader.specs.Answers.{WasRead, AnswersAs}
use Rattle.alethe_reader.specs.KeptReads.{KeepsRead}
use Rattle.alethe_reader.specs.Bound.{images_in, BindApart}
use Rattle.alethe_reader.specs.Opening.{is_wanted, image_read, IsImageRead}
use Rattle.alethe_reader.specs.NeededImages.{AreNeeded}
use Rattle.alethe_reader.proofs.BoundLemmas.{images_named}
use Rattle.alethe_reader.proofs.NeededImages.{put_in_needed}
use Rattle.alethe_reader.proofs.OuterImages.{image_same}
use Rattle.alethe_reader.proofs.StillRead.{keeps_then, keeps_demand, keeps_give}
use Rattle.alethe_reader.proofs.StillReadCommands.{keeps_more}

pub outer_taken : (s : Table) (v : TermsView) (bs : List (ℕ × ℕ)) (q : Replacement) (m n : ℕ) → n ≡ m → AllZip (IsBindingOf s v) (take m bs) q → AllZip (IsBindingOf s v) (take n bs) q
outer_taken s v bs q m n same h = rw same h

-- the names of the images
names_at : (q : Replacement) (more : List (List ℕ)) (k : ℕ) (c : Var × Term) → slice_get q k ≡ Some c → slice_get (map (λ b. b.0.name) q ++ more) k ≡ Some c.0.name
names_at [] more k c e = absurd (cc)
names_at (b ∷ q) more zero c e = ap (λ (o : Option (Var × Term)). option_map (λ d. d.0.name) o) e
names_at (b ∷ q) more (suc k) c e = names_at q more k c e

-- What is put in for the images that the term needs makes the image.
module _ (s : Table) (v w : TermsView) (names more : List (List ℕ)) (outer bs : List (ℕ × ℕ)) (nesting : Nesting Var Term) (t : Typed) (c : Value) (table : IsTable s) (is : IsValue (both s v) c t) (zip : AllZip (IsBindingOf s v) outer (images_in nesting)) (named : names ≡ bound_names nesting ++ more) (needed : AreNeeded s v.pass names outer c.term bs) where
  named_at : (k : ℕ) (b : Var × Term) → slice_get (images_in nesting) k ≡ Some b → slice_get names k ≡ Some b.0.name
  named_at k b e =
      subst (λ ns. slice_get ns k ≡ Some b.0.name) (ap (λ ns. ns ++ more) (images_named nesting) ∙ sym named) (names_at (images_in nesting) more k b e)

  put_in_for : (r : Replacement) × AllZip (IsBindingOf s v) bs r × (put_in r t.tree ≡ put_in (images_in nesting) t.tree)
  put_in_for = put_in_needed s v names outer (images_in nesting) zip named_at table needed.leaves bs needed.are t.tree is.refers.tree is.refers.stands (needed.among is.refers.tree is.refers.known)

  needed_stand : StandForReplacement s v bs put_in_for.0
  needed_stand = put_in_for.1

  pub needed_replace : AreReplacementBy s v bs
  needed_replace = record { means = put_in_for.0; are = needed_stand }

  module _ (apart : BindApart nesting) where
    is_image : put_in put_in_for.0 t.tree ≡ image_of nesting t.tree
    is_image = put_in_for.2 ∙ image_same nesting t.tree apart

    pub image_refers : (image : ℕ) → ((t : Term) (q : Replacement) → RefersTo s v c.term t → StandForReplacement s v bs q → RefersTo s w image (put_in q t)) → RefersTo s w image (image_of nesting t.tree)
    image_refers image h = subst (RefersTo s w image) is_image (h t.tree put_in_for.0 is.refers needed_stand)

    pub image_placed : ((t : Term) (q : Replacement) → RefersTo s v c.term t → StandForReplacement s v bs q → PlacesTerm s v.pass w.pass (put_in q t)) → PlacesTerm s v.pass w.pass (image_of nesting t.tree)
    image_placed h = subst (PlacesTerm s v.pass w.pass) is_image (h t.tree put_in_for.0 is.refers needed_stand)

    pub image_lacks : ((t : Term) (q : Replacement) → RefersTo s v c.term t → StandForReplacement s v bs q → LacksRoomFor s w.pass (put_in q t)) → LacksRoomFor s w.pass (image_of nesting t.tree)
    image_lacks h = subst (LacksRoomFor s w.pass) is_image (h t.tree put_in_for.0 is.refers needed_stand)

-- the height of an image
pub image_high : (h : ℕ) (t : Term) → h ≡ height t → most_height < h → nat_le (height t) most_height ≡ false
image_high h t e high = lt-leb (height t) most_height (omega (arith, e, high))

pub image_low : (h : ℕ) (t : Term) → h ≡ height t → h ≤ most_height → nat_le (height t) most_height ≡ true
image_low h t e low = le-leb (height t) most_height (omega (arith, e, low))

module _ (limit : Option ℕ) (place : ℕ) (name : List ℕ) (wanted : Option Sort) (nesting : Nesting Var Term) (t : Typed) where
  pub keeps_image : KeepsRead (image_read limit place name wanted nesting t)
  unfolding image_read
  keeps_image =
      keeps_then _ _ (keeps_demand _ _ _) (λ _. keeps_then _ _ (keeps_more _) (λ _. keeps_then _ _ (keeps_demand _ _ _) (λ _. keeps_give _)))

  module _ (q : ProofState) where
    abbrev image : Term
    image = image_of nesting t.tree

    abbrev with_image : ProofState
    with_image = record q { script = with_term image q.script }

    abbrev variable_of : Var × Term
    variable_of = (record { name = name; sort = t.sort }, t.tree)

    -- by the sort, and by the height
    abbrev read_so : Bool → Bool → Outcome ProofState (Var × Term)
    read_so fits low = (demand fits SortMismatch place >>= λ _. script_changed (with_term image) >>= λ _. demand low TooHigh place >>= λ _. give variable_of) q

    read_is : image_read limit place name wanted nesting t q ≡ read_so (is_wanted wanted t.sort) (is_low limit (height image))
    unfolding image_read ◌>>=◌
    read_is = refl

    pub other_sort : is_wanted wanted t.sort ≡ false → (image_read limit place name wanted nesting t q).result ≡ Err (record { cause = SortMismatch; at = place })
    unfolding ◌>>=◌
    other_sort e = ap (λ (o : Outcome ProofState (Var × Term)). o.result) (read_is ∙ ap (λ fits. read_so fits (is_low limit (height image))) e)

    module _ (fits : is_wanted wanted t.sort ≡ true) where
      fitting : image_read limit place name wanted nesting t q ≡ read_so true (is_low limit (height image))
      fitting = read_is ∙ ap (λ b. read_so b (is_low limit (height image))) fits

      pub too_high : is_low limit (height image) ≡ false → (image_read limit place name wanted nesting t q).result ≡ Err (record { cause = TooHigh; at = place })
      unfolding ◌>>=◌
      too_high e = ap (λ (o : Outcome ProofState (Var × Term)). o.result) (fitting ∙ ap (read_so true) e)

      pub image_done : is_low limit (height image) ≡ true → image_read limit place name wanted nesting t q ≡ done variable_of with_image
      unfolding ◌>>=◌
      image_done e = fitting ∙ ap (read_so true) e

      -- the image counts as read
      pub image_was_read : WasRead (image_read limit place name wanted nesting t q) image
      unfolding ◌>>=◌
      image_was_read = subst (λ (o : Outcome ProofState (Var × Term)). WasRead o image) (sym fitting) (go (is_low limit (height image)))
        where
          go : (low : Bool) → WasRead (read_so true low) image
          go true = Contains-push q.script.terms image
          go false = Contains-push q.script.terms image

      module _ (s : Table) (v w : TermsView) (placed : PlacesTerm s v.pass w.pass image) where
        cells_of : PlacesCellsOf s v.pass w.pass (WasRead (image_read limit place name wanted nesting t q))
        cells_of = places_of_term s v.pass w.pass (WasRead (image_read limit place name wanted nesting t q)) image image_was_read placed

        pub no_image : (stop : TermStop) → (stop ≡ TermStop.PoolFull → LacksRoomFor s w.pass image) → AnswersAs v (both s w) (IsImageRead (both s w) name nesting t q) (image_read limit place name wanted nesting t q) (Err (fault_of stop))
        no_image TermStop.PoolFull full = record { answer = lacks_for_term s w.pass (WasRead (image_read limit place name wanted nesting t q)) image image_was_read (full refl); placed = cells_of }
        no_image TermStop.Memory full = record { answer = tt; placed = cells_of }

        module _ (x : TermsView) (keeps : KeepsTerms w x) (unchanged : IsUnchanged w.pass x.pass) where
          cells_still : PlacesCellsOf s v.pass x.pass (WasRead (image_read limit place name wanted nesting t q))
          cells_still =
              places_then s s v.pass w.pass x.pass (WasRead (image_read limit place name wanted nesting t q)) (keeps_table s) keeps.pass cells_of
              (places_none s w.pass x.pass (WasRead (image_read limit place name wanted nesting t q)) unchanged.placed)

          pub no_height : AnswersAs v (both s x) (IsImageRead (both s x) name nesting t q) (image_read limit place name wanted nesting t q) (Err ReadFault.Memory)
          no_height = record { answer = tt; placed = cells_still }

          pub image_refused : is_low limit (height image) ≡ false → (refusal : Refusal) → refusal ≡ record { cause = TooHigh; at = place }
              → AnswersAs v (both s x) (IsImageRead (both s x) name nesting t q) (image_read limit place name wanted nesting t q) (Err (ReadFault.Text refusal))
          image_refused e refusal is = record { answer = too_high e ∙ ap (λ (r : Refusal). Err r) (sym is); placed = cells_still }

          pub image_made : is_low limit (height image) ≡ true → (c : ℕ) → RefersTo s x c image → AnswersAs v (both s x) (IsImageRead (both s x) name nesting t q) (image_read limit place name wanted nesting t q) (Ok c)
          image_made e c refers = record {
            answer = record { value = variable_of; state = with_image; is = image_done e; after = record { refers = refers; same = refl; state = refl } };
            placed = cells_still;
          }
