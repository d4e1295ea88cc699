-- Private. The two sides of the clause of a cong: their arguments are pairs of the command.
use Rattle.std.proofs.Common.{◌≡◌, ◌≢◌, inl, inr, ℕ, zero, suc, List, [], ◌∷◌, map, slice_get, length, nat_le, ◌&&◌, Some, All, Contains, refl, sym, subst}
use Rattle.std.proofs.lemmas.List.Elements.{All-head}
use Rattle.std.specs.List.{AllZip}
use Rattle.pair_pool.specs.Views.{IsOneToOne}
use Rattle.sym_table.specs.Table.{IsTable}
use Rattle.term_model.specs.declared.symbols.Sort.{Sort}
use Rattle.term_model.specs.Flips.{equality}
use Rattle.term_model.specs.Sorts.{IsOf, of_one_sort}
use Rattle.term_model.specs.Terms.{Term}
use Rattle.term_model.proofs.Lists.{contains_cases, contains_head, contains_later, contains_none, list_of-terms_of}
use Rattle.term_model.proofs.Sorting.{when-same}
use Rattle.term_pool.specs.Reading.{arguments_of}
use Rattle.term_pool.specs.Views.{TermsView, RefersTo, ReferToAll}
use Rattle.rule_model.specs.Congruence.{Head, applied, function, operator, IsLinked}
use Rattle.rule_model.specs.Reading.{clause_at, premises_at, premise_clauses}
use Rattle.equality_steps.specs.declared.site.Site.{Site}
use Rattle.equality_steps.specs.Sites.{AreSides, IsLiteralAt, IsSideAt, IsSite}
use Rattle.equality_steps.proofs.SiteLemmas.{sides_fit, sides_turned}
use Rattle.equality_ways.proofs.Places.{contains_of_get, contains_of_left, zip_contained}
use Rattle.flip_steps.specs.Subterms.{IsWithin, whole, argument}
use Rattle.flip_steps.proofs.SubtermLemmas.{argument_sorted, within_free}
use Rattle.equality_blocks.specs.Commands.{IsLiteralOfCommand, IsToElaborate, clause_of_command, literals_of_command, rule_of_command}
use Rattle.equality_blocks.specs.Counts.{literal}
use Rattle.equality_blocks.specs.Made.{IsMadeFor, left, equated, paired, stated}
use Rattle.equality_blocks.specs.Pairs.{AreMatched, ArePaired, IsOfCongruence, arguments, inner, linked, outer, reversed, turned}
use Rattle.equality_blocks.specs.Pairs.{equated as linked_equated}
use Rattle.elab_equality.specs.declared.matching.Crossed.{Crossed}
use Rattle.elab_equality.specs.declared.matching.Matched.{Matched}
use Rattle.elab_equality.specs.Linked.{ArePremises, IsPair}
use Rattle.elab_equality.specs.Matching.{IsCrossed, IsMatched}
use Rattle.elab_equality.proofs.JoinLemmas.{within_within}
use Rattle.elab_equality.proofs.LinkLemmas.{flips_sort, refers_once}
use Rattle.elab_equality.proofs.LiteralsHere.{literal_fits}

-- an item of a list of images
pub contains_map : {X Y : Type 0} (f : X → Y) (xs : List X) (y : Y) → Contains (map f xs) y → (x : X) × Contains xs x × (f x ≡ y)
contains_map f [] y h = absurd (contains_none y h)
contains_map f (x ∷ xs) y h = elim (contains_cases (f x) y (map f xs) h) [
  | inl e ↦ (x, contains_head x xs, e)
  | inr k ↦ (let rest = contains_map f xs y k in (rest.0, contains_later x rest.0 xs rest.1, rest.2))
]

pub arguments_are : (head : Head) (ts : List Term) → arguments_of (applied head ts) ≡ ts
arguments_are (operator op) ts = list_of-terms_of ts
arguments_are (function f) ts = list_of-terms_of ts

-- what a clause of a premise says may stand
premise_fits : (p : Site) (v : TermsView) → IsTable p.symbols.now → IsOneToOne v.pass → IsSite p v → (ps : List (List Term)) → ArePremises p v ps → (t : Term)
    → Contains ps (t ∷ []) → IsLiteralAt p t
premise_fits p v table one site ps are t there =
    let found = zip_contained (ReferToAll p.symbols.now v) (premise_clauses p.proof.now p.command) ps (t ∷ []) are there in
    let named = contains_map (clause_at p.proof.now) (premises_at p.proof.now p.command) found.0 found.1 in
    let given = site.premises named.0 named.1 in
    let same : given.clause ≡ t ∷ [] =
    refers_once p v table one found.0 given.clause (t ∷ []) (subst (λ rs. ReferToAll p.symbols.now v rs given.clause) named.2 given.refer) found.2 in
    All-head (IsLiteralAt p) t [] (subst (All (IsLiteralAt p)) same given.fit)

-- an equality is of Bool
equality_bool : (a b : Term) (s : Sort) → IsOf (equality a b) s → s ≡ Sort.Bool
equality_bool a b s h = when-same (nat_le 2 (length h.sorts) && of_one_sort h.sorts) Sort.Bool s h.is

module _ (p : Site) (v : TermsView) (job : IsToElaborate p v) (site : IsSite p v) (root : ℕ) (clause : clause_of_command p ≡ root ∷ []) (l r : Term)
    (refers : RefersTo p.symbols.now v root (equality l r)) where
  root_there : Contains (clause_of_command p) root
  root_there = subst (λ xs. Contains xs root) (sym clause) (contains_head root [])

  root_among : Contains (literals_of_command p) root
  root_among = contains_of_left (clause_of_command p) _ root root_there

  own : IsLiteralOfCommand p v (equality l r)
  own = record { reference = root; among = root_among; refers = refers }

  pub both_fit : AreSides p l r
  both_fit = sides_fit p l r (literal_fits p v job (equality l r) own)

  matched : IsOfCongruence (rule_of_command p) → AreMatched p v l r
  matched rule = inl (record { rule = rule; before = []; reference = root; clause = clause; refers = refers })

  pub whole_made : IsMadeFor p v (equality l r)
  whole_made = stated (equality l r) (paired l r (equality l r) (inl (linked l r (linked_equated (inl own)))) equated)

  left_within : (t : Term) → IsWithin l t → IsWithin (equality l r) t
  left_within t h = within_within (equality l r) l t (argument (equality l r) l whole (contains_head l (r ∷ []))) h

  right_within : (t : Term) → IsWithin r t → IsWithin (equality l r) t
  right_within t h = within_within (equality l r) r t (argument (equality l r) r whole (contains_later l r (r ∷ []) (contains_head r []))) h

  -- two terms in the sides that are linked
  module _ (ps : List (List Term)) (are : ArePremises p v ps) where
    fit_together : (t u : Term) → Contains (arguments_of l) t → Contains (arguments_of r) u → IsLinked ps t u → AreSides p t u
    fit_together t u left_in right_in (inl flips) =
        let sorted = argument_sorted l t left_in (record { sort = both_fit.sort; of = both_fit.left.0 }) in
        record {
          sort = sorted.sort;
          left = (sorted.of, λ x free. both_fit.left.1 x (within_free x l t (argument l t whole left_in) free));
          right = (flips_sort t u sorted.sort flips sorted.of, λ x free. both_fit.right.1 x (within_free x r u (argument r u whole right_in) free));
        }
    fit_together t u left_in right_in (inr (inl there)) = sides_fit p t u (premise_fits p v job.table job.known site ps are (equality t u) there)
    fit_together t u left_in right_in (inr (inr there)) =
        sides_turned p u t (sides_fit p u t (premise_fits p v job.table job.known site ps are (equality u t) there))

    pair_of : (a b : ℕ) (t u : Term) → Contains (arguments_of l) t → Contains (arguments_of r) u → ArePaired p v t u → RefersTo p.symbols.now v a t
        → RefersTo p.symbols.now v b u → IsLinked ps t u → IsPair p v a b
    pair_of a b t u left_in right_in pair first second linked_by = record {
      left = t;
      right = u;
      left_refers = first;
      right_refers = second;
      left_in = record {
        root = root;
        is = literal root_among;
        stands = record { whole = equality l r; whole_refers = refers; term = t; refers = first; within = left_within t (argument l t whole left_in) };
      };
      right_in = record {
        root = root;
        is = literal root_among;
        stands = record { whole = equality l r; whole_refers = refers; term = u; refers = second; within = right_within u (argument r u whole right_in) };
      };
      sides = fit_together t u left_in right_in linked_by;
      paired = pair;
      premises = ps;
      are = are;
      linked = linked_by;
    }

    pair_here : AreMatched p v l r → (k : ℕ) (a b : ℕ) (t u : Term) → slice_get (arguments_of l) k ≡ Some t → slice_get (arguments_of r) k ≡ Some u → RefersTo p.symbols.now v a t
        → RefersTo p.symbols.now v b u → IsLinked ps t u → IsPair p v a b
    pair_here by k a b t u e d first second linked_by =
        pair_of a b t u (contains_of_get (arguments_of l) k t e) (contains_of_get (arguments_of r) k u d)
        (inl (arguments l r t u by (record { place = k; left = e; right = d }))) first second linked_by

    pairs_along : (ls bs : List ℕ) (ts us : List Term) → ReferToAll p.symbols.now v ls ts → ReferToAll p.symbols.now v bs us → AllZip (IsLinked ps) ts us
        → ((k : ℕ) (a b : ℕ) (t u : Term) → slice_get ts k ≡ Some t → slice_get us k ≡ Some u → RefersTo p.symbols.now v a t → RefersTo p.symbols.now v b u
        → IsLinked ps t u → IsPair p v a b) → AllZip (IsPair p v) ls bs
    pairs_along [] [] ts us left_refer right_refer zipped f = tt
    pairs_along [] (b ∷ bs) [] [] left_refer right_refer zipped f = absurd right_refer
    pairs_along [] (b ∷ bs) [] (u ∷ us) left_refer right_refer zipped f = absurd zipped
    pairs_along [] (b ∷ bs) (t ∷ ts) us left_refer right_refer zipped f = absurd left_refer
    pairs_along (a ∷ ls) bs [] us left_refer right_refer zipped f = absurd left_refer
    pairs_along (a ∷ ls) bs (t ∷ ts) [] left_refer right_refer zipped f = absurd zipped
    pairs_along (a ∷ ls) [] (t ∷ ts) (u ∷ us) left_refer right_refer zipped f = absurd right_refer
    pairs_along (a ∷ ls) (b ∷ bs) (t ∷ ts) (u ∷ us) left_refer right_refer zipped f = (
      f zero a b t u refl refl left_refer.0 right_refer.0 zipped.0,
      pairs_along ls bs ts us left_refer.1 right_refer.1 zipped.1 (λ k c d x y e g. f (suc k) c d x y e g),
    )

-- the two sides, whose arguments are linked place by place
pub matched_here : (p : Site) (v : TermsView) → IsToElaborate p v → IsOfCongruence (rule_of_command p) → IsSite p v → (root : ℕ) → clause_of_command p ≡ root ∷ [] → (head : Head) (ts us : List Term) → ts ≢ []
    → RefersTo p.symbols.now v root (equality (applied head ts) (applied head us)) → (ps : List (List Term)) → ArePremises p v ps → (x : Matched)
    → RefersTo p.symbols.now v x.left (applied head ts) → RefersTo p.symbols.now v x.right (applied head us) → ReferToAll p.symbols.now v x.lefts.now ts
    → ReferToAll p.symbols.now v x.rights.now us → AllZip (IsLinked ps) ts us → IsMatched p v x
matched_here p v job rule site root clause head ts us some refers ps are x left_refers right_refers lefts rights zipped =
    let l = applied head ts in
    let r = applied head us in
    record {
      head = head;
      ts = ts;
      us = us;
      some = some;
      left_refers = left_refers;
      right_refers = right_refers;
      lefts_refer = lefts;
      rights_refer = rights;
      sides = both_fit p v job site root clause l r refers;
      made = whole_made p v job site root clause l r refers;
      pairs = pairs_along p v job site root clause l r refers ps are x.lefts.now x.rights.now ts us lefts rights zipped
          (λ k a b t u e d first second linked_by. pair_here p v job site root clause l r refers ps are (matched p v job site root clause l r refers rule) k a b t u
          (subst (λ xs. slice_get xs k ≡ Some t) (sym (arguments_are head ts)) e) (subst (λ xs. slice_get xs k ≡ Some u) (sym (arguments_are head us)) d)
          first second linked_by);
    }

-- two equalities, whose sides are linked crosswise
pub crossed_here : (p : Site) (v : TermsView) → IsToElaborate p v → IsOfCongruence (rule_of_command p) → IsSite p v → (root : ℕ) → clause_of_command p ≡ root ∷ [] → (a b c d : Term)
    → RefersTo p.symbols.now v root (equality (equality a b) (equality c d)) → (ps : List (List Term)) → ArePremises p v ps → (x : Crossed)
    → RefersTo p.symbols.now v x.left (equality a b) → RefersTo p.symbols.now v x.right (equality c d) → RefersTo p.symbols.now v x.a a → RefersTo p.symbols.now v x.b b
    → RefersTo p.symbols.now v x.c c → RefersTo p.symbols.now v x.d d → IsLinked ps a d → IsLinked ps b c → IsCrossed p v x
unfolding pair_of
crossed_here p v job rule site root clause a b c d refers ps are x left_refers right_refers a_refers b_refers c_refers d_refers outer_by inner_by =
    let l = equality a b in
    let r = equality c d in
    let both = both_fit p v job site root clause l r refers in
    let way = matched p v job site root clause l r refers rule in
    let first : Contains (arguments_of l) a = contains_head a (b ∷ []) in
    let second : Contains (arguments_of l) b = contains_later a b (b ∷ []) (contains_head b []) in
    let third : Contains (arguments_of r) c = contains_head c (d ∷ []) in
    let fourth : Contains (arguments_of r) d = contains_later c d (d ∷ []) (contains_head d []) in
    record {
      outer = pair_of p v job site root clause l r refers ps are x.a x.d a d first fourth (inl (outer a b c d way)) a_refers d_refers outer_by;
      inner = pair_of p v job site root clause l r refers ps are x.b x.c b c second third (inl (inner a b c d way)) b_refers c_refers inner_by;
      left_refers = left_refers;
      right_refers = right_refers;
      left_sides = sides_fit p a b (subst (λ s. IsSideAt p s l) (equality_bool a b both.sort both.left.0) both.left);
      right_sides = sides_fit p c d (subst (λ s. IsSideAt p s r) (equality_bool c d both.sort both.right.0) both.right);
      turned = stated (equality b a) (paired (equality b a) r (equality b a) (inl (turned a b c d way)) left);
      exchanged = stated (equality l (equality b a)) (paired l (equality b a) (equality l (equality b a)) (inl (reversed a b c d way)) equated);
      through = stated (equality (equality b a) r) (paired (equality b a) r (equality (equality b a) r) (inl (turned a b c d way)) equated);
      made = whole_made p v job site root clause l r refers;
    }
