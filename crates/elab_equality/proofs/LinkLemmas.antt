-- Private. Links to premises, and links that say that arguments are equal.
use Rattle.std.proofs.Common.{◌≡◌, ◌<◌, ◌⊎◌, inl, inr, ℕ, zero, suc, List, [], ◌∷◌, ◌++◌, length, map, slice_get, Option, Some, None, Contains}
use Rattle.std.proofs.Common.{append_assoc, refl, sym, ◌∙◌, ap, subst, arith}
use Rattle.std.proofs.lemmas.List.{append-nil, length-map}
use Rattle.std.proofs.lemmas.Option.{slice_get_within}
use Rattle.std.specs.List.{AllZip}
use Rattle.std.specs.Option.{option_to_list}
use Rattle.pair_pool.specs.Views.{IsOneToOne}
use Rattle.sym_table.specs.Table.{IsTable}
use Rattle.term_model.specs.declared.symbols.Op.{Op}
use Rattle.term_model.specs.declared.symbols.Sort.{Sort}
use Rattle.term_model.specs.Flips.{equality, EqualUpToFlips, same, operations, calls, flipped, AllEqualUpToFlips, none, each}
use Rattle.term_model.specs.Sorts.{IsOf, AreOf, application_sort}
use Rattle.term_model.specs.Terms.{Term, Terms, no_terms, term}
use Rattle.term_model.proofs.Zips.{zip_length, zip_weaken}
use Rattle.term_model.proofs.Flips.{operation_flipped}
use Rattle.term_pool.specs.Views.{TermsView, KeepsTerms, RefersTo, ReferToAll}
use Rattle.term_pool.proofs.TermLemmas.{equal_where}
use Rattle.proof_store.specs.AddedSteps.{AddedStep}
use Rattle.proof_store.specs.declared.added.Link.{Link}
use Rattle.rule_model.specs.Congruence.{AreDifferences, IsLinked}
use Rattle.rule_model.specs.Congruence.{AreSides as AreSidesOfPremise}
use Rattle.rule_model.specs.Reading.{clause_at, premises_at, premise_clauses}
use Rattle.equality_steps.specs.declared.site.Site.{Site}
use Rattle.equality_steps.specs.Blocks.{Extends}
use Rattle.equality_steps.specs.Links.{LinkEquates, LinkSays, LinksSay}
use Rattle.equality_steps.specs.Sites.{AreSidesAt}
use Rattle.equality_steps.proofs.StepLemmas.{refer_later}
use Rattle.equality_ways.specs.declared.pairs.Used.{Used}
use Rattle.equality_ways.specs.declared.table.Table.{Table as WayTable}
use Rattle.equality_ways.specs.Sides.{AreSidesOfUnit}
use Rattle.equality_ways.specs.Ways.{AreEnds, LeadsTo, turned_if}
use Rattle.equality_ways.proofs.Places.{contains_of_get, zip_contained, zip_get}
use Rattle.flip_steps.specs.Memory.{IsEquatedBy}
use Rattle.flip_steps.proofs.FormLemmas.{turned_sort}
use Rattle.flip_steps.proofs.MemoryLemmas.{equated_later}
use Rattle.flip_steps.proofs.OrderLemmas.{refers_later, stands_later}
use Rattle.equality_blocks.specs.Made.{stated, paired, equated}
use Rattle.elab_equality.specs.Linked.{AreFlips, AreLinkedBy, ArePremises, IsGiven, IsInCommand, IsPair, IsPremiseLink}
use Rattle.elab_equality.specs.Work.{AreMadeEqual}
use Rattle.equality_blocks.proofs.StayLemmas.{paired_later, root_later}
use Rattle.elab_equality.proofs.WorkLemmas.{links_stay}

-- an equality has the sort of another one whose sides have those of its sides, crosswise
crossed_sort : (a b c d : Term) (s : Sort) → ((x : Sort) → IsOf a x → IsOf d x) → ((x : Sort) → IsOf b x → IsOf c x) → (ss : List Sort)
    → AreOf (term a (term b no_terms)) ss → application_sort Op.Equal ss ≡ Some s → IsOf (equality d c) s
crossed_sort a b c d s outer inner (x ∷ (y ∷ [])) have e = record { sorts = x ∷ y ∷ []; arguments = (outer x have.0, (inner y have.1.0, tt)); is = e }
crossed_sort a b c d s outer inner (x ∷ (y ∷ (z ∷ ss))) have e = absurd have.1.1
crossed_sort a b c d s outer inner (x ∷ []) have e = absurd have.1
crossed_sort a b c d s outer inner [] have e = absurd have

-- terms that are equal up to flips have one sort
mutual
  pub flips_sort : (t u : Term) (s : Sort) → EqualUpToFlips t u → IsOf t s → IsOf u s
  flips_sort _ _ s (same t) h = h
  flips_sort _ _ s (operations op ts us all) h = record {
    sorts = h.sorts;
    arguments = flips_sorts ts us h.sorts all h.arguments;
    is = operation_flipped op ts us h.sorts s all h.is;
  }
  flips_sort _ _ s (calls f ts us all) h = record { sorts = h.sorts; arguments = flips_sorts ts us h.sorts all h.arguments; is = h.is }
  flips_sort _ _ s (flipped a b c d outer inner) h =
      turned_sort d c s (crossed_sort a b c d s (λ x k. flips_sort a d x outer k) (λ x k. flips_sort b c x inner k) h.sorts h.arguments h.is)

  flips_sorts : (ts us : Terms) (ss : List Sort) → AllEqualUpToFlips ts us → AreOf ts ss → AreOf us ss
  flips_sorts _ _ ss none h = h
  flips_sorts _ _ [] (each t u ts us here rest) h = absurd h
  flips_sorts _ _ (s ∷ ss) (each t u ts us here rest) h = (flips_sort t u s here h.0, flips_sorts ts us ss rest h.1)

-- items of a list of images
pub get_map : {X Y : Type 0} (f : X → Y) (xs : List X) (k : ℕ) (x : X) → slice_get xs k ≡ Some x → slice_get (map f xs) k ≡ Some (f x)
get_map f [] k x e = cc
get_map f (y ∷ xs) zero x e = let same : y ≡ x = cc in ap (λ z. Some (f z)) same
get_map f (y ∷ xs) (suc k) x e = get_map f xs k x e

-- the premise at a place
module _ (p : Site) (v : TermsView) (table : WayTable) (given : IsGiven p v table) where
  pub place_within : (u : Used) (a b : ℕ) → LeadsTo given.sides u a b → u.place < length (premises_at p.proof.now p.command)
  place_within u a b leads =
      let here = slice_get_within given.sides u.place (Some (turned_if u.turned (a, b))) leads in
      let first = zip_length (AreSidesOfUnit p.symbols.now v) given.sides given.premises given.sides_are in
      let second = zip_length (ReferToAll p.symbols.now v) (premise_clauses p.proof.now p.command) given.premises given.are in
      let third = length-map (premises_at p.proof.now p.command) (clause_at p.proof.now) in
      omega (arith, here, first, second, third)

  pub premise_says : (steps : List AddedStep) (u : Used) (a b : ℕ) (link : Link) → LeadsTo given.sides u a b → IsPremiseLink p u.place link
      → LinkEquates p v steps link (turned_if u.turned (a, b)).0 (turned_if u.turned (a, b)).1
  premise_says steps u a b link leads h =
      let q = turned_if u.turned (a, b) in
      let one = zip_get (AreSidesOfUnit p.symbols.now v) given.sides given.premises u.place (Some q) given.sides_are leads in
      let there = get_map (clause_at p.proof.now) (premises_at p.proof.now p.command) u.place h.premise h.there in
      let other = zip_get (ReferToAll p.symbols.now v) (premise_clauses p.proof.now p.command) given.premises u.place (clause_at p.proof.now h.premise) given.are there in
      let e = one.2.0 in
      let clause : other.0 ≡ equality e.0 e.1 ∷ [] = (let f : Some other.0 ≡ Some one.0 = sym other.1 ∙ one.1 in let g : other.0 ≡ one.0 = cc in g ∙ one.2.2) in
      subst (λ l. LinkEquates p v steps l q.0 q.1) (sym h.is) (record {
        left = e.0;
        right = e.1;
        left_refers = one.2.1.0;
        right_refers = one.2.1.1;
        says = record {
          names = contains_of_get (premises_at p.proof.now p.command) u.place h.premise h.there;
          stands = subst (ReferToAll p.symbols.now v (clause_at p.proof.now h.premise)) clause other.2;
        };
      })

-- references stand for one list of terms
module _ (p : Site) (v : TermsView) (is_table : IsTable p.symbols.now) (one : IsOneToOne v.pass) where
  pub refers_once : (rs : List ℕ) (ts us : List Term) → ReferToAll p.symbols.now v rs ts → ReferToAll p.symbols.now v rs us → ts ≡ us
  refers_once [] [] [] h k = refl
  refers_once [] [] (u ∷ us) h k = absurd k
  refers_once [] (t ∷ ts) us h k = absurd h
  refers_once (r ∷ rs) [] us h k = absurd h
  refers_once (r ∷ rs) (t ∷ ts) [] h k = absurd k
  refers_once (r ∷ rs) (t ∷ ts) (u ∷ us) h k =
      ap (λ x. x ∷ ts) ((equal_where p.symbols.now v is_table one r r t u h.0 k.0).0 refl) ∙ ap (λ xs. u ∷ xs) (refers_once rs ts us h.1 k.1)

  pub clauses_once : (rs : List (List ℕ)) (ts us : List (List Term)) → AllZip (ReferToAll p.symbols.now v) rs ts → AllZip (ReferToAll p.symbols.now v) rs us → ts ≡ us
  clauses_once [] [] [] h k = refl
  clauses_once [] [] (u ∷ us) h k = absurd k
  clauses_once [] (t ∷ ts) us h k = absurd h
  clauses_once (r ∷ rs) [] us h k = absurd h
  clauses_once (r ∷ rs) (t ∷ ts) [] h k = absurd k
  clauses_once (r ∷ rs) (t ∷ ts) (u ∷ us) h k =
      ap (λ x. x ∷ ts) (refers_once r t u h.0 k.0) ∙ ap (λ xs. u ∷ xs) (clauses_once rs ts us h.1 k.1)

-- the sides of a premise are ends
module _ (p : Site) (v : TermsView) (table : WayTable) (is_table : IsTable p.symbols.now) (one : IsOneToOne v.pass) (given : IsGiven p v table) where
  pub unit_ends : (a b : ℕ) (t u : Term) → RefersTo p.symbols.now v a t → RefersTo p.symbols.now v b u → Contains given.premises (equality t u ∷ [])
      → Contains given.sides (Some (a, b))
  unit_ends a b t u left right there =
      let found = zip_contained (AreSidesOfUnit p.symbols.now v) given.sides given.premises (equality t u ∷ []) given.sides_are there in
      go found.0 found.1 found.2
    where
      go : (o : Option (ℕ × ℕ)) → Contains given.sides o → AreSidesOfUnit p.symbols.now v o (equality t u ∷ []) → Contains given.sides (Some (a, b))
      go None here h = absurd (h t u refl)
      go (Some q) here (e, both, is) =
          let first : t ≡ e.0 = cc in
          let second : u ≡ e.1 = cc in
          let left_is : q.0 ≡ a = (equal_where p.symbols.now v is_table one q.0 a e.0 t both.0 left).1 (sym first) in
          let right_is : q.1 ≡ b = (equal_where p.symbols.now v is_table one q.1 b e.1 u both.1 right).1 (sym second) in
          subst (λ x. Contains given.sides (Some x)) (ap (λ x. (x, q.1)) left_is ∙ ap (λ x. (a, x)) right_is) here

  pub pair_flips : (a b : ℕ) → IsPair p v a b → ¬ AreEnds given.sides a b → AreFlips p v a b
  pair_flips a b h apart = record {
    left = h.left;
    right = h.right;
    left_refers = h.left_refers;
    right_refers = h.right_refers;
    left_in = h.left_in;
    right_in = h.right_in;
    sides = h.sides;
    paired = h.paired;
    equal = go (subst (λ ps. IsLinked ps h.left h.right)
        (clauses_once p v is_table one (premise_clauses p.proof.now p.command) h.premises given.premises h.are given.are) h.linked);
  }
    where
      go : EqualUpToFlips h.left h.right ⊎ AreSidesOfPremise given.premises h.left h.right → EqualUpToFlips h.left h.right
      go (inl equal) = equal
      go (inr (inl there)) = absurd (apart (inl (unit_ends a b h.left h.right h.left_refers h.right_refers there)))
      go (inr (inr there)) = absurd (apart (inr (unit_ends b a h.right h.left h.right_refers h.left_refers there)))

-- what holds of a pair stays
pub in_command_later : (p : Site) (v w : TermsView) → KeepsTerms v w → (r : ℕ) → IsInCommand p v r → IsInCommand p w r
in_command_later p v w keeps r h = record {
  root = h.root;
  is = root_later p v w keeps h.root h.is;
  stands = stands_later p.symbols.now v w keeps h.root r h.stands;
}

pub premises_later : (p : Site) (v w : TermsView) → KeepsTerms v w → (ps : List (List Term)) → ArePremises p v ps → ArePremises p w ps
premises_later p v w keeps ps h =
    zip_weaken (ReferToAll p.symbols.now v) (ReferToAll p.symbols.now w) (refer_later p v w keeps) (premise_clauses p.proof.now p.command) ps h

pub pair_later : (p : Site) (v w : TermsView) → KeepsTerms v w → (a b : ℕ) → IsPair p v a b → IsPair p w a b
pair_later p v w keeps a b h = record {
  left = h.left;
  right = h.right;
  left_refers = refers_later p.symbols.now v w a h.left keeps h.left_refers;
  right_refers = refers_later p.symbols.now v w b h.right keeps h.right_refers;
  left_in = in_command_later p v w keeps a h.left_in;
  right_in = in_command_later p v w keeps b h.right_in;
  sides = h.sides;
  paired = paired_later p v w keeps h.left h.right h.paired;
  premises = h.premises;
  are = premises_later p v w keeps h.premises h.are;
  linked = h.linked;
}

both_sides : (p : Site) (v w : TermsView) → KeepsTerms v w → (q : ℕ × ℕ) (e : Term × Term) → RefersTo p.symbols.now v q.0 e.0 × RefersTo p.symbols.now v q.1 e.1
    → RefersTo p.symbols.now w q.0 e.0 × RefersTo p.symbols.now w q.1 e.1
both_sides p v w keeps q e h = (refers_later p.symbols.now v w q.0 e.0 keeps h.0, refers_later p.symbols.now v w q.1 e.1 keeps h.1)

pub unit_sides_later : (p : Site) (v w : TermsView) → KeepsTerms v w → (o : Option (ℕ × ℕ)) (c : List Term) → AreSidesOfUnit p.symbols.now v o c
    → AreSidesOfUnit p.symbols.now w o c
unit_sides_later p v w keeps None c h = h
unit_sides_later p v w keeps (Some q) c (e, both, is) = (e, both_sides p v w keeps q e both, is)

pub given_later : (p : Site) (v w : TermsView) → KeepsTerms v w → (table : WayTable) → IsGiven p v table → IsGiven p w table
given_later p v w keeps table h = record {
  within = h.within;
  premises = h.premises;
  are = premises_later p v w keeps h.premises h.are;
  sides = h.sides;
  sides_are = zip_weaken (AreSidesOfUnit p.symbols.now v) (AreSidesOfUnit p.symbols.now w) (unit_sides_later p v w keeps) h.sides h.premises h.sides_are;
  table_is = h.table_is;
}

-- the equality of a pair is made for the command
pub pair_made : (p : Site) (v : TermsView) (a b : ℕ) → IsPair p v a b → AreMadeEqual p v a b
pair_made p v a b h = record {
  left = h.left;
  right = h.right;
  left_refers = h.left_refers;
  right_refers = h.right_refers;
  made = stated (equality h.left h.right) (paired h.left h.right (equality h.left h.right) h.paired equated);
}

pub pair_sides : (p : Site) (v : TermsView) (a b : ℕ) → AreFlips p v a b → AreSidesAt p v a b
pair_sides p v a b h = record { left = h.left; right = h.right; left_refers = h.left_refers; right_refers = h.right_refers; sides = h.sides }

-- links of arguments
pub linked_more : (p : Site) (v : TermsView) (steps : List AddedStep) (ls bs : List ℕ) (links : List Link) (a b : ℕ) (o : Option Link)
    → AreLinkedBy p v steps ls bs links → IsEquatedBy p v steps o a b → AreLinkedBy p v steps (ls ++ a ∷ []) (bs ++ b ∷ []) (links ++ option_to_list o)
linked_more p v steps [] [] links a b o e k = (o, [], k, ap (λ xs. xs ++ option_to_list o) e ∙ sym (append-nil (option_to_list o)), refl)
linked_more p v steps [] (y ∷ bs) links a b o h k = absurd h
linked_more p v steps (x ∷ ls) [] links a b o h k = absurd h
linked_more p v steps (x ∷ ls) (y ∷ bs) links a b o (l, rest, is, e, more) k = (
  l,
  rest ++ option_to_list o,
  is,
  ap (λ xs. xs ++ option_to_list o) e ∙ append_assoc (option_to_list l) rest (option_to_list o),
  linked_more p v steps ls bs rest a b o more k,
)

pub linked_later : (p : Site) (v w : TermsView) (old new : List AddedStep) → KeepsTerms v w → Extends old new → (ls bs : List ℕ) (links : List Link)
    → AreLinkedBy p v old ls bs links → AreLinkedBy p w new ls bs links
linked_later p v w old new keeps more [] [] links h = h
linked_later p v w old new keeps more [] (y ∷ bs) links h = h
linked_later p v w old new keeps more (x ∷ ls) [] links h = h
linked_later p v w old new keeps more (x ∷ ls) (y ∷ bs) links (l, rest, is, e, others) =
    (l, rest, equated_later links_stay p v w old new keeps more l x y is, e, linked_later p v w old new keeps more ls bs rest others)

-- what the links of arguments say
pub record AreSaid (p : Site) (v : TermsView) (steps : List AddedStep) (links : List Link) (ts us : List Term) : Type 0 where
  pub clauses : List (List Term)
  pub say : LinksSay p v steps links clauses
  pub differences : AreDifferences clauses ts us

module _ (p : Site) (v : TermsView) (steps : List AddedStep) (table : IsTable p.symbols.now) (one : IsOneToOne v.pass) where
  said_more : (a b : ℕ) (t u : Term) (o : Option Link) (rest : List Link) (ts us : List Term) → RefersTo p.symbols.now v a t → RefersTo p.symbols.now v b u
      → IsEquatedBy p v steps o a b → AreSaid p v steps rest ts us → AreSaid p v steps (option_to_list o ++ rest) (t ∷ ts) (u ∷ us)
  said_more a b t u None rest ts us left right e h = record {
    clauses = h.clauses;
    say = h.say;
    differences = inl ((equal_where p.symbols.now v table one a b t u left right).0 e, h.differences);
  }
  said_more a b t u (Some link) rest ts us left right (apart, says) h =
      let first = (equal_where p.symbols.now v table one a a says.left t says.left_refers left).0 refl in
      let second = (equal_where p.symbols.now v table one b b says.right u says.right_refers right).0 refl in
      record {
        clauses = (equality t u ∷ []) ∷ h.clauses;
        say = (
          subst (λ x. LinkSays p v steps link (equality t x ∷ [])) second
              (subst (λ x. LinkSays p v steps link (equality x says.right ∷ [])) first says.says),
          h.say,
        );
        differences = inr (λ e. apart ((equal_where p.symbols.now v table one a b t u left right).1 e), (h.clauses, refl, h.differences));
      }

  pub linked_said : (ls bs : List ℕ) (links : List Link) (ts us : List Term) → ReferToAll p.symbols.now v ls ts → ReferToAll p.symbols.now v bs us
      → AreLinkedBy p v steps ls bs links → AreSaid p v steps links ts us
  linked_said [] [] links [] [] left right e = record { clauses = []; say = subst (λ xs. LinksSay p v steps xs []) (sym e) tt; differences = refl }
  linked_said [] [] links [] (u ∷ us) left right e = absurd right
  linked_said [] [] links (t ∷ ts) us left right e = absurd left
  linked_said [] (b ∷ bs) links ts us left right h = absurd h
  linked_said (a ∷ ls) [] links ts us left right h = absurd h
  linked_said (a ∷ ls) (b ∷ bs) links [] us left right h = absurd left
  linked_said (a ∷ ls) (b ∷ bs) links (t ∷ ts) [] left right h = absurd right
  linked_said (a ∷ ls) (b ∷ bs) links (t ∷ ts) (u ∷ us) left right (l, rest, is, e, more) =
      subst (λ xs. AreSaid p v steps xs (t ∷ ts) (u ∷ us)) (sym e)
      (said_more a b t u l rest ts us left.0 right.0 is (linked_said ls bs rest ts us left.1 right.1 more))
