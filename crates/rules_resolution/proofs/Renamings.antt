-- What unit propagation says of clauses it says of the same clauses with new names for their atoms.
use Rattle.std.proofs.Common.{◌≡◌, ◌↔◌, inl, inr, ℕ, suc, ◌+◌, ◌<◌, Option, Some, None, Result, Ok, Err, IfOk, IfSome, IfNone, List, [], ◌∷◌, ◌++◌, length, get_or, refl, sym, ◌∙◌, ap, subst, arith, MatchOption, length-append, take}
use Rattle.std.specs.Global.{Vec}
use Rattle.std.proofs.lemmas.List.{get_or-append-add, get_or_append_left, take_more, length-take}
use Rattle.rule_model.specs.Consequence.{literal_at, Leads, Contradicts, Follows}
use Rattle.rule_model.specs.Renaming.{KeepsAtomsApart, IsLiteralImage, AreLiteralImages, AreAllImages}
use Rattle.rule_model.specs.declared.literal.Literal.{Literal}
use Rattle.rule_model.proofs.Renamings.{leads_renamed, contradicts_renamed, follows_renamed}
use Rattle.rule_model.specs.declared.literal.Literal.TheVariants.{Plain, Always, Never}
use Rattle.clause_chain.specs.Chaining.{clauses_of}
use Rattle.rules_resolution.specs.Literal.{Lit}
use Rattle.pair_pool.specs.declared.stops.Memory.{Memory}
use Rattle.rules_resolution.specs.Shows.{Shows}
use Rattle.rules_resolution.specs.Trace.{Trace}
use Rattle.rules_resolution.specs.Renaming.{all_literals, atom_of, atom_name_at, AreNames, renamed_atom, renamed_from, renamed_in, joined_clauses}
use Rattle.rules_resolution.proofs.Tables.{clauses_of-take_more}

-- what a trail shows of clauses it shows of the same clauses with other names for their atoms
pub shows_renamed : {A B : Type 0} (R : A → B → Type 0) → KeepsAtomsApart R → (ps : List (List (Literal A))) (qs : List (List (Literal B))) (g : List (Literal A)) (h : List (Literal B)) (trail : Trace)
    → AreAllImages R ps qs → AreLiteralImages R g h → Shows ps g trail ↔ Shows qs h trail
shows_renamed R one ps qs g h trail zs z = (on trail.last, back trail.last)
  where
    same : Contradicts g ↔ Contradicts h
    same = contradicts_renamed R one g h z

    on : (last : Option ℕ) → MatchOption last ((trail.units ≡ []) × Contradicts g) (λ k. (Contradicts g → ⊥) × Leads ps g trail.units k) → MatchOption last ((trail.units ≡ []) × Contradicts h) (λ k. (Contradicts h → ⊥) × Leads qs h trail.units k)
    on None shows = (shows.0, same.0 shows.1)
    on (Some k) shows = (λ wrong. shows.0 (same.1 wrong), (leads_renamed R one ps qs g h trail.units k zs z).0 shows.1)

    back : (last : Option ℕ) → MatchOption last ((trail.units ≡ []) × Contradicts h) (λ k. (Contradicts h → ⊥) × Leads qs h trail.units k) → MatchOption last ((trail.units ≡ []) × Contradicts g) (λ k. (Contradicts g → ⊥) × Leads ps g trail.units k)
    back None shows = (shows.0, same.1 shows.1)
    back (Some k) shows = (λ wrong. shows.0 (same.0 wrong), (leads_renamed R one ps qs g h trail.units k zs z).1 shows.1)

-- what a trail shows follows
pub shown_follows : {A : Type 0} (premises : List (List (Literal A))) (goal : List (Literal A)) (trail : Trace) → Shows premises goal trail → Follows premises goal
shown_follows premises goal trail = by trail.last where
  by : (last : Option ℕ) → MatchOption last ((trail.units ≡ []) × Contradicts goal) (λ n. (Contradicts goal → ⊥) × Leads premises goal trail.units n) → Follows premises goal
  by None shows = inl shows.1
  by (Some n) shows = inr (trail.units, n, shows.1)

-- the atom of one of these literals, and the literal's name
abbrev pub IsNameIn : List Lit → List ℕ → ℕ → ℕ → Type 0
IsNameIn literals names a x = (i : ℕ) × (atom_of (literal_at literals i) ≡ Some a) × (x ≡ atom_name_at names i)

names-one_to_one : (literals : List Lit) (names : List ℕ) → AreNames literals names → KeepsAtomsApart (IsNameIn literals names)
names-one_to_one literals names are a b x y (i, e, p) (j, f, q) = (
  λ same. p ∙ are.same i j a e (f ∙ ap (λ (n : ℕ). Some n) (sym same)) ∙ sym q,
  λ same. are.one_atom i j a b e f (sym p ∙ same ∙ q),
)

-- the literals from number i on, of all that have names
abbrev pub StandFrom : List Lit → ℕ → List Lit → Type 0
StandFrom literals i ls = (j : ℕ) → j < length ls → literal_at literals (i + j) ≡ literal_at ls j

named_here : (literals : List Lit) (names : List ℕ) (i : ℕ) (l : Lit) → literal_at literals i ≡ l → IsLiteralImage (IsNameIn literals names) l (renamed_atom l (atom_name_at names i))
named_here literals names i (Plain a s) e = ((i, ap atom_of e, refl), refl)
named_here literals names i Always e = tt
named_here literals names i Never e = tt

renamed_from-named : (literals : List Lit) (names : List ℕ) (i : ℕ) (ls : List Lit) → StandFrom literals i ls → AreLiteralImages (IsNameIn literals names) ls (renamed_from names i ls)
renamed_from-named literals names i [] stand = tt
renamed_from-named literals names i (l ∷ ls) stand = (
  named_here literals names i l (ap (literal_at literals) (let e : i ≡ i + 0 = omega arith in e) ∙ stand 0 (omega arith)),
  renamed_from-named literals names (i + 1) ls
      (λ j h. ap (literal_at literals) (let e : i + 1 + j ≡ i + suc j = omega arith in e) ∙ stand (suc j) (omega (arith, h))),
)

stand-front : (literals : List Lit) (i : ℕ) (ls ms : List Lit) → StandFrom literals i (ls ++ ms) → StandFrom literals i ls
stand-front literals i ls ms stand j h =
    stand j (let e = length-append ls ms in omega arith) ∙ get_or_append_left ls ms Never j h

stand-back : (literals : List Lit) (i : ℕ) (ls ms : List Lit) → StandFrom literals i (ls ++ ms) → StandFrom literals (i + length ls) ms
stand-back literals i ls ms stand j h =
    ap (literal_at literals) (let e : i + length ls + j ≡ i + (length ls + j) = omega arith in e)
    ∙ (stand (length ls + j) (let e = length-append ls ms in omega arith) ∙ get_or-append-add ls ms j Never)

renamed_in-named : (literals : List Lit) (names : List ℕ) (i : ℕ) (cs : List (List Lit)) → StandFrom literals i (joined_clauses cs) → AreAllImages (IsNameIn literals names) cs (renamed_in names i cs)
renamed_in-named literals names i [] stand = tt
renamed_in-named literals names i (c ∷ cs) stand = (
  renamed_from-named literals names i c (stand-front literals i c (joined_clauses cs) stand),
  renamed_in-named literals names (i + length c) cs (stand-back literals i c (joined_clauses cs) stand),
)

-- the names of one more literal, and of one more premise
renamed_from-append : (names : List ℕ) (i n : ℕ) (xs ys : List Lit) → n ≡ i + length xs → renamed_from names i (xs ++ ys) ≡ renamed_from names i xs ++ renamed_from names n ys
renamed_from-append names i n [] ys e = let same : i ≡ n = omega arith in ap (λ m. renamed_from names m ys) same
renamed_from-append names i n (x ∷ xs) ys e =
    ap (λ ls. renamed_atom x (atom_name_at names i) ∷ ls) (renamed_from-append names (i + 1) n xs ys (omega (arith, e)))

pub renamed_from-more : (names : List ℕ) (from i n : ℕ) (clause : List Lit) (d : Lit) → i < length clause → n ≡ from + i → renamed_from names from (take (i + 1) clause) ≡ renamed_from names from (take i clause) ++ renamed_atom (get_or clause i d) (atom_name_at names n) ∷ []
renamed_from-more names from i n clause d h e =
    ap (renamed_from names from) (take_more clause i d h)
    ∙ renamed_from-append names from n (take i clause) (get_or clause i d ∷ []) (let l = length-take i clause in omega arith)

renamed_in-append : (names : List ℕ) (i n : ℕ) (cs ds : List (List Lit)) → n ≡ i + length (joined_clauses cs) → renamed_in names i (cs ++ ds) ≡ renamed_in names i cs ++ renamed_in names n ds
renamed_in-append names i n [] ds e = let same : i ≡ n = omega arith in ap (λ m. renamed_in names m ds) same
renamed_in-append names i n (c ∷ cs) ds e =
    let parts = length-append c (joined_clauses cs) in
    ap (λ ls. renamed_from names i c ∷ ls) (renamed_in-append names (i + length c) n cs ds (omega arith))

pub renamed_in-more : (names : List ℕ) (vs : List (Vec Lit)) (i from : ℕ) (d : Vec Lit) → i < length vs → from ≡ length (joined_clauses (clauses_of (take i vs)))
    → renamed_in names 0 (clauses_of (take (i + 1) vs)) ≡ renamed_in names 0 (clauses_of (take i vs)) ++ renamed_from names from (get_or vs i d).items ∷ []
renamed_in-more names vs i from d h size =
    ap (renamed_in names 0) (clauses_of-take_more vs i d h)
    ∙ renamed_in-append names 0 from (clauses_of (take i vs)) ((get_or vs i d).items ∷ []) (omega (arith, size))

pub length-renamed_from : (names : List ℕ) (i : ℕ) (ls : List Lit) → length (renamed_from names i ls) ≡ length ls
length-renamed_from names i [] = refl
length-renamed_from names i (l ∷ ls) = let e = length-renamed_from names (i + 1) ls in omega arith

pub length-renamed_in : (names : List ℕ) (i : ℕ) (cs : List (List Lit)) → length (renamed_in names i cs) ≡ length cs
length-renamed_in names i [] = refl
length-renamed_in names i (c ∷ cs) = let e = length-renamed_in names (i + length c) cs in omega arith

module _ (premises : List (List Lit)) (goal : List Lit) (names : List ℕ) (n : ℕ) (are : AreNames (all_literals premises goal) names) (goes_on : n ≡ length (joined_clauses premises)) where
  stand_all : StandFrom (all_literals premises goal) 0 (all_literals premises goal)
  stand_all j h = ap (literal_at (all_literals premises goal)) (let e : 0 + j ≡ j = omega arith in e)

  premises_named : AreAllImages (IsNameIn (all_literals premises goal) names) premises (renamed_in names 0 premises)
  premises_named =
      renamed_in-named (all_literals premises goal) names 0 premises
      (stand-front (all_literals premises goal) 0 (joined_clauses premises) goal stand_all)

  goal_named : AreLiteralImages (IsNameIn (all_literals premises goal) names) goal (renamed_from names n goal)
  goal_named =
      renamed_from-named (all_literals premises goal) names n goal
      (subst (λ (k : ℕ). StandFrom (all_literals premises goal) k goal) (let e : 0 + length (joined_clauses premises) ≡ n = omega arith in e)
      (stand-back (all_literals premises goal) 0 (joined_clauses premises) goal stand_all))

  one_to_one : KeepsAtomsApart (IsNameIn (all_literals premises goal) names)
  one_to_one = names-one_to_one (all_literals premises goal) names are

  pub follows-renamed : Follows premises goal → Follows (renamed_in names 0 premises) (renamed_from names n goal)
  follows-renamed =
      (follows_renamed (IsNameIn (all_literals premises goal) names) one_to_one
      premises (renamed_in names 0 premises) goal (renamed_from names n goal) premises_named goal_named).0

  pub shows-renamed : (trail : Trace) → Shows (renamed_in names 0 premises) (renamed_from names n goal) trail → Shows premises goal trail
  shows-renamed trail =
      (shows_renamed (IsNameIn (all_literals premises goal) names) one_to_one
      premises (renamed_in names 0 premises) goal (renamed_from names n goal) trail premises_named goal_named).1

-- so what is returned for the clauses with new names is so for the clauses as they were
module _ (premises : List (List Lit)) (goal : List Lit) (names : List ℕ) (n : ℕ) (are : AreNames (all_literals premises goal) names) (goes_on : n ≡ length (joined_clauses premises)) (ps : List (List Lit)) (h : List Lit) (ps_are : ps ≡ renamed_in names 0 premises) (h_is : h ≡ renamed_from names n goal) where
  pub shown_before : (r : Result (Option Trace) Memory) → IfOk r (λ found. IfSome found (Shows ps h)) → IfOk r (λ found. IfSome found (Shows premises goal))
  shown_before (Err e) shown = shown
  shown_before (Ok None) shown = shown
  shown_before (Ok (Some t)) shown = shows-renamed premises goal names n are goes_on t (rw (sym ps_are, sym h_is) shown)

  pub none_before : (r : Result (Option Trace) Memory) → IfOk r (λ found. IfNone found (Follows ps h → ⊥)) → IfOk r (λ found. IfNone found (Follows premises goal → ⊥))
  none_before (Err e) none = none
  none_before (Ok None) none = λ follows. none (rw (ps_are, h_is) (follows-renamed premises goal names n are goes_on follows))
  none_before (Ok (Some t)) none = none
