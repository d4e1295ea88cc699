-- The keys of literals, and the names that they give.
use Rattle.std.proofs.Common.{◌≡◌, ◌≢◌, ◌⊎◌, inl, inr, ⊎_elim, ℕ, zero, suc, ◌+◌, ◌<◌, ◌≤◌, true, false, nat_eq, Some, Result, Ok, Err, List, [], ◌∷◌, ◌++◌, length, get_or, set, refl, sym, ◌∙◌, ap, subst, arith, All, Contains, append_assoc, length-append, take, eq-eqb}
use Rattle.std.specs.List.Sorted.{IsPermutation, IsNonDecreasingBy}
use Rattle.std.specs.Global.{Vec}
use Rattle.std.specs.Result.{IfOk}
use Rattle.std.proofs.lemmas.Bool.{eqb-true, cases_lt, cases_Bool}
use Rattle.std.proofs.lemmas.List.{append-nil, take_more, take_all, length-take, get_or_default, get_or-set_same, get_or-set_other}
use Rattle.std.proofs.lemmas.List.Concat.{flat_map-append}
use Rattle.std.proofs.lemmas.List.Elements.{All-nil, All-cons, All-append, Contains-append_left, Contains-append_right}
use Rattle.std.proofs.lemmas.List.Folds.{flat_map-map, length-flat_map-take}
use Rattle.std.proofs.lemmas.List.Sorted.{Contains-permutation, All-permutation}
use Rattle.rule_model.specs.Consequence.{literal_at}
use Rattle.rule_model.specs.declared.literal.Literal.TheVariants.{Plain, Always, Never}
use Rattle.clause_chain.specs.Chaining.{clauses_of}
use Rattle.rules_resolution.specs.Literal.{Lit}
use Rattle.rules_resolution.specs.declared.naming.Key.{Key}
use Rattle.pair_pool.specs.declared.stops.Memory.{Memory}
use Rattle.rules_resolution.specs.Renaming.{all_literals, atom_of, atom_name_at, AreNames, joined_clauses}
use Rattle.rules_resolution.specs.Naming.{key_rank, key_at, keys_from, IsKeyOf, AreKeys, IsRun, key_number_in, HasNames}
use Rattle.rules_resolution.proofs.Renamings.{StandFrom}
use Rattle.rules_resolution.proofs.Tables.{clauses_of-take_more}

pub keys_from-append : (i n : ℕ) (xs ys : List Lit) → n ≡ i + length xs → keys_from i (xs ++ ys) ≡ keys_from i xs ++ keys_from n ys
keys_from-append i n [] ys e = let same : i ≡ n = omega arith in ap (λ m. keys_from m ys) same
keys_from-append i n (x ∷ xs) ys e =
    ap (λ ks. key_at i x ++ ks) (keys_from-append (i + 1) n xs ys (omega (arith, e)))
    ∙ sym (append_assoc (key_at i x) (keys_from (i + 1) xs) (keys_from n ys))

pub keys_from-more : (from i n : ℕ) (clause : List Lit) (d : Lit) → i < length clause → n ≡ from + i → keys_from from (take (i + 1) clause) ≡ keys_from from (take i clause) ++ key_at n (get_or clause i d)
keys_from-more from i n clause d h e =
    ap (keys_from from) (take_more clause i d h)
    ∙ (keys_from-append from n (take i clause) (get_or clause i d ∷ []) (let l = length-take i clause in omega arith)
    ∙ ap (λ ks. keys_from from (take i clause) ++ ks) (append-nil (key_at n (get_or clause i d))))

-- the literals of the first premises, and of one more
pub joined-more : (vs : List (Vec Lit)) (i : ℕ) (d : Vec Lit) → i < length vs → joined_clauses (clauses_of (take (i + 1) vs)) ≡ joined_clauses (clauses_of (take i vs)) ++ (get_or vs i d).items
joined-more vs i d h =
    ap (joined_clauses) (clauses_of-take_more vs i d h)
    ∙ (flat_map-append (λ (c : List Lit). c) (clauses_of (take i vs)) ((get_or vs i d).items ∷ [])
    ∙ ap (λ ls. joined_clauses (clauses_of (take i vs)) ++ ls) (append-nil (get_or vs i d).items))

pub joined-le : (vs : List (Vec Lit)) (i : ℕ) (d : Vec Lit) → i < length vs → length (joined_clauses (clauses_of (take i vs))) + length (get_or vs i d).items ≤ length (joined_clauses (clauses_of vs))
joined-le vs i d h =
    rw (flat_map-map (λ (c : List Lit). c) (λ (v : Vec Lit). v.items) (take i vs), flat_map-map (λ (c : List Lit). c) (λ (v : Vec Lit). v.items) vs)
    (length-flat_map-take (λ (v : Vec Lit). v.items) vs i d h)

-- the keys of one more premise, and of the conclusion
pub keys_joined : (vs : List (Vec Lit)) (i from : ℕ) (v : Vec Lit) (slice : List Lit) → i < length vs → v ≡ get_or vs i v → slice ≡ v.items → from ≡ length (joined_clauses (clauses_of (take i vs)))
    → keys_from 0 (joined_clauses (clauses_of (take i vs))) ++ keys_from from slice ≡ keys_from 0 (joined_clauses (clauses_of (take (i + 1) vs)))
keys_joined vs i from v slice h is value size =
    ap (λ ls. keys_from 0 (joined_clauses (clauses_of (take i vs))) ++ keys_from from ls) (value ∙ ap (λ (w : Vec Lit). w.items) is)
    ∙ sym (ap (keys_from 0) (joined-more vs i v h)
    ∙ keys_from-append 0 from (joined_clauses (clauses_of (take i vs))) (get_or vs i v).items (omega (arith, size)))

pub joined_length : (vs : List (Vec Lit)) (i from n : ℕ) (v : Vec Lit) → i < length vs → v ≡ get_or vs i v → n ≡ length v.items → from ≡ length (joined_clauses (clauses_of (take i vs))) → from + n ≡ length (joined_clauses (clauses_of (take (i + 1) vs)))
joined_length vs i from n v h is long size =
    let more = ap length (joined-more vs i v h) in
    let parts = length-append (joined_clauses (clauses_of (take i vs))) (get_or vs i v).items in
    let same = ap (λ (w : Vec Lit). length w.items) is in
    omega arith

pub keys_all : (vs : List (Vec Lit)) (goal : List Lit) (i from : ℕ) → length vs ≤ i → from ≡ length (joined_clauses (clauses_of (take i vs)))
    → keys_from 0 (joined_clauses (clauses_of (take i vs))) ++ keys_from from goal ≡ keys_from 0 (all_literals (clauses_of vs) goal)
keys_all vs goal i from h size =
    sym (keys_from-append 0 from (joined_clauses (clauses_of (take i vs))) goal (omega (arith, size)))
    ∙ ap (λ (ws : List (Vec Lit)). keys_from 0 (joined_clauses (clauses_of ws) ++ goal)) (take_all i vs h)

-- what a key says is so
key_at-sound : (literals : List Lit) (i : ℕ) (l : Lit) → i < length literals → literal_at literals i ≡ l → All (IsKeyOf literals) (key_at i l)
key_at-sound literals i (Plain a s) h e = All-cons (IsKeyOf literals) _ [] (record { within = h; atom = ap atom_of e }) (All-nil (IsKeyOf literals))
key_at-sound literals i Always h e = All-nil (IsKeyOf literals)
key_at-sound literals i Never h e = All-nil (IsKeyOf literals)

keys_from-sound : (literals : List Lit) (i : ℕ) (ls : List Lit) → i + length ls ≡ length literals → StandFrom literals i ls → All (IsKeyOf literals) (keys_from i ls)
keys_from-sound literals i [] size stand = All-nil (IsKeyOf literals)
keys_from-sound literals i (l ∷ ls) size stand =
    All-append (IsKeyOf literals) (key_at i l) (keys_from (i + 1) ls)
    (key_at-sound literals i l (omega (arith, size)) (ap (literal_at literals) (let e : i ≡ i + 0 = omega arith in e) ∙ stand 0 (omega arith)))
    (keys_from-sound literals (i + 1) ls (omega (arith, size))
    (λ j h. ap (literal_at literals) (let e : i + 1 + j ≡ i + suc j = omega arith in e) ∙ stand (suc j) (omega (arith, h))))

pub all_keys-sound : (literals : List Lit) → All (IsKeyOf literals) (keys_from 0 literals)
all_keys-sound literals = keys_from-sound literals 0 literals (omega arith) (λ j h. ap (literal_at literals) (let e : 0 + j ≡ j = omega arith in e))

-- and each literal that is no constant has a key
abbrev key_of : ℕ → ℕ → Key
key_of a i = record { atom = a; number = i }

key_at-contains : (i a : ℕ) (l : Lit) → atom_of l ≡ Some a → Contains (key_at i l) (key_of a i)
key_at-contains i a (Plain b s) e = let same : b ≡ a = cc in subst (λ (x : ℕ). Contains (key_at i (Plain x s)) (key_of a i)) (sym same) (0, omega arith, refl)
key_at-contains i a Always e = cc
key_at-contains i a Never e = cc

keys_from-contains : (i n : ℕ) (ls : List Lit) (j a : ℕ) → n ≡ i + j → atom_of (literal_at ls j) ≡ Some a → Contains (keys_from i ls) (key_of a n)
keys_from-contains i n [] zero a e h = cc
keys_from-contains i n [] (suc j) a e h = cc
keys_from-contains i n (l ∷ ls) zero a e h =
    let here : n ≡ i = omega arith in
    Contains-append_left (key_at i l) (keys_from (i + 1) ls) (key_of a n)
    (subst (λ (m : ℕ). Contains (key_at i l) (key_of a m)) (sym here) (key_at-contains i a l h))
keys_from-contains i n (l ∷ ls) (suc j) a e h =
    Contains-append_right (key_at i l) (keys_from (i + 1) ls) (key_of a n)
    (keys_from-contains (i + 1) n ls j a (omega (arith, e)) h)

-- the name of an atom is the number of its first key
name_in-first : (keys : List Key) (r : ℕ) (d : Key) → r < length keys → ((q : ℕ) → q < r → (get_or keys q d).atom ≢ (get_or keys r d).atom) → key_number_in keys (get_or keys r d).atom ≡ (get_or keys r d).number
name_in-first [] r d h new = absurd (omega (arith, h))
name_in-first (k ∷ ks) zero d h new = rw (eq-eqb k.atom k.atom refl) refl
name_in-first (k ∷ ks) (suc r) d h new =
    rw (other (cases_Bool (nat_eq k.atom (get_or ks r d).atom)))
    (name_in-first ks r d (omega (arith, h)) (λ q below. new (suc q) (omega (arith, below))))
  where
    other : (nat_eq k.atom (get_or ks r d).atom ≡ true) ⊎ (nat_eq k.atom (get_or ks r d).atom ≡ false) → nat_eq k.atom (get_or ks r d).atom ≡ false
    other (inl same) = absurd (new 0 (omega arith) (eqb-true k.atom (get_or ks r d).atom same))
    other (inr e) = e

-- and of a literal that has the atom
name_in-sound : (literals : List Lit) (keys : List Key) → All (IsKeyOf literals) keys → (a r : ℕ) (d : Key) → r < length keys → (get_or keys r d).atom ≡ a → atom_of (literal_at literals (key_number_in keys a)) ≡ Some a
name_in-sound literals [] all a r d h e = absurd (omega (arith, h))
name_in-sound literals (k ∷ ks) all a r d h e =
    elim (cases_Bool (nat_eq k.atom a)) [
      | inl same ↦ rw same ((all 0 k (omega arith)).atom ∙ ap (λ (x : ℕ). Some x) (eqb-true k.atom a same))
      | inr other ↦ rw other (later r other (λ s g f. name_in-sound literals ks (λ i x b. all (suc i) x (omega (arith, b))) a s d g f) h e)
    ]
  where
    later : (r : ℕ) → nat_eq k.atom a ≡ false → ((s : ℕ) → s < length ks → (get_or ks s d).atom ≡ a → atom_of (literal_at literals (key_number_in ks a)) ≡ Some a) → r < length (k ∷ ks) → (get_or (k ∷ ks) r d).atom ≡ a → atom_of (literal_at literals (key_number_in ks a)) ≡ Some a
    later zero other among h e = (let t = eq-eqb k.atom a e in cc (t, other))
    later (suc r) other among h e = among r (omega (arith, h)) e

-- a run of equal atoms
pub run_none : (keys : List Key) → IsRun keys 0 0
run_none keys = record { alike = λ q d h g. absurd (omega (arith, g)); before = λ q d h. absurd (omega (arith, h)) }

pub run_kept : (keys : List Key) (first at : ℕ) (e : Key) → IsRun keys first at → first ≤ at → at < length keys → (get_or keys at e).atom ≡ (get_or keys first e).atom → IsRun keys first (at + 1)
run_kept keys first at e run within h same =
    record {
      alike = λ q d g below.
          (⊎_elim
          (λ (earlier : q < at). run.alike q d g earlier)
          (λ (last : at ≤ q). (let here : q ≡ at = omega arith in
          ap (λ (m : ℕ). (get_or keys m d).atom) here ∙ (ap (λ (k : Key). k.atom) (get_or_default keys at d e h) ∙ (same ∙ ap (λ (k : Key). k.atom) (get_or_default keys first e d (omega arith))))))
          (cases_lt q at));
      before = run.before;
    }

pub run_new : (keys : List Key) (first at : ℕ) (e : Key) → IsNonDecreasingBy (λ k. k.atom) keys → IsRun keys first at → first ≤ at → at < length keys → (get_or keys at e).atom ≢ (get_or keys first e).atom → IsRun keys at (at + 1)
run_new keys first at e rising run within h other =
    record {
      alike = λ q d g below. (let here : q ≡ at = omega arith in ap (λ (m : ℕ). (get_or keys m d).atom) here);
      before = λ q d below.
          (let up = rising first at d within h in
          let there = ap (λ (k : Key). k.atom) (get_or_default keys at d e h) in
          let start = ap (λ (k : Key). k.atom) (get_or_default keys first d e (omega arith)) in
          let apart : (get_or keys first d).atom < (get_or keys at d).atom = (let ne : (get_or keys at d).atom ≢ (get_or keys first d).atom = λ same. other (sym there ∙ (same ∙ start)) in omega arith) in
          ⊎_elim
          (λ (earlier : q < first). (let l = run.before q d earlier in omega arith))
          (λ (later : first ≤ q). (let l = run.alike q d later below in omega arith))
          (cases_lt q first));
    }

-- the first key of a run gives its atom's name
pub run_names : (keys : List Key) (first at : ℕ) (d : Key) → IsRun keys first (at + 1) → first ≤ at → at < length keys → (get_or keys first d).number ≡ key_number_in keys (get_or keys at d).atom
run_names keys first at d run within h =
    sym (ap (key_number_in keys) (run.alike at d within (omega arith))
    ∙ name_in-first keys first d (omega arith) (λ q below same. (let l = run.before q d below in omega arith)))

-- one more literal has its name
pub named_more : (keys : List Key) (names : List ℕ) (at x : ℕ) (e : Key) → AreKeys (length names) keys → at < length keys → x ≡ key_number_in keys (get_or keys at e).atom
    → ((q : ℕ) (d : Key) → q < at → atom_name_at names (get_or keys q d).number ≡ key_number_in keys (get_or keys q d).atom)
    → (q : ℕ) (d : Key) → q < at + 1 → atom_name_at (set names (get_or keys at e).number x) (get_or keys q d).number ≡ key_number_in keys (get_or keys q d).atom
named_more keys names at x e (literals, size, all) h is named q d below =
    elim (cases_Bool (nat_eq (get_or keys q d).number (get_or keys at e).number)) [
      | inl same ↦ written (eqb-true (get_or keys q d).number (get_or keys at e).number same)
      | inr other ↦ kept (λ same. (let t = eq-eqb (get_or keys q d).number (get_or keys at e).number same in cc (t, other)))
    ]
  where
    here : IsKeyOf literals (get_or keys at e)
    here = all at e h

    there : IsKeyOf literals (get_or keys q d)
    there = all q d (omega (arith, h, below))

    written : (get_or keys q d).number ≡ (get_or keys at e).number → atom_name_at (set names (get_or keys at e).number x) (get_or keys q d).number ≡ key_number_in keys (get_or keys q d).atom
    written same =
        let atoms = sym there.atom ∙ (ap (λ (n : ℕ). atom_of (literal_at literals n)) same ∙ here.atom) in
        let atom : (get_or keys q d).atom ≡ (get_or keys at e).atom = cc in
        ap (atom_name_at (set names (get_or keys at e).number x)) same
        ∙ (get_or-set_same names (get_or keys at e).number x 0 (let w = here.within in omega arith)
        ∙ (is ∙ ap (key_number_in keys) (sym atom)))

    kept : ((get_or keys q d).number ≢ (get_or keys at e).number) → atom_name_at (set names (get_or keys at e).number x) (get_or keys q d).number ≡ key_number_in keys (get_or keys q d).atom
    kept other =
        get_or-set_other names (get_or keys at e).number (get_or keys q d).number x 0 other
        ∙ named q d earlier
      where
        earlier : q < at
        earlier = ⊎_elim (λ (l : q < at). l) (λ (l : at ≤ q). absurd (other (let s : q ≡ at = omega arith in ap (λ (m : ℕ). (get_or keys m d).number) s ∙ ap (λ (k : Key). k.number) (get_or_default keys at d e h)))) (cases_lt q at)

pub atoms_rising : (keys : List Key) → All (λ k. k.number < 4294967296) keys → IsNonDecreasingBy key_rank keys → IsNonDecreasingBy (λ k. k.atom) keys
atoms_rising keys small rising i j d h g =
    let up = rising i j d h g in
    let n = small j d g in
    omega arith

pub numbers_small : (literals : List Lit) (keys : List Key) → length literals < 4294967296 → All (IsKeyOf literals) keys → All (λ k. k.number < 4294967296) keys
numbers_small literals keys few all = λ i d h. (let w = (all i d h).within in omega arith)

-- names by keys that stand in any order are names of the literals
module _ (literals : List Lit) (sorted : List Key) (names : List ℕ) (moved : IsPermutation (keys_from 0 literals) sorted) (has : HasNames sorted names) where
  all_sound : All (IsKeyOf literals) sorted
  all_sound = All-permutation (IsKeyOf literals) (keys_from 0 literals) sorted moved (all_keys-sound literals)

  there_is : (i a : ℕ) → atom_of (literal_at literals i) ≡ Some a → Contains sorted (key_of a i)
  there_is i a e = Contains-permutation (keys_from 0 literals) sorted (key_of a i) moved (keys_from-contains 0 i literals i a (omega arith) e)

  name_is : (i a : ℕ) → atom_of (literal_at literals i) ≡ Some a → atom_name_at names i ≡ key_number_in sorted a
  name_is i a e =
      let there = there_is i a e in
      subst (λ (k : Key). atom_name_at names k.number ≡ key_number_in sorted k.atom) there.2 (has there.0 (key_of a i) there.1)

  name_has : (i a : ℕ) → atom_of (literal_at literals i) ≡ Some a → atom_of (literal_at literals (key_number_in sorted a)) ≡ Some a
  name_has i a e =
      let there = there_is i a e in
      name_in-sound literals sorted all_sound a there.0 (key_of a i) there.1 (ap (λ (k : Key). k.atom) there.2)

  pub are_names : length names ≡ length literals → AreNames literals names
  are_names size =
      record {
        size = size;
        same = λ i j a e f. name_is i a e ∙ sym (name_is j a f);
        one_atom = λ i j a b e f same.
            (let one = name_has i a e in
            let other = name_has j b f in
            let names_same : key_number_in sorted a ≡ key_number_in sorted b = sym (name_is i a e) ∙ (same ∙ name_is j b f) in
            let atoms = sym one ∙ (ap (λ (n : ℕ). atom_of (literal_at literals n)) names_same ∙ other) in
            cc);
      }

pub sorted_sound : (literals : List Lit) (found sorted : List Key) → found ≡ keys_from 0 literals → IsPermutation found sorted → All (IsKeyOf literals) sorted
sorted_sound literals found sorted e moved =
    All-permutation (IsKeyOf literals) found sorted moved (rw e (all_keys-sound literals))

pub names_found : (literals : List Lit) (found sorted : List Key) (count : ℕ) → found ≡ keys_from 0 literals → IsPermutation found sorted → count ≡ length literals
    → (r : Result (Vec ℕ) Memory) → IfOk r (λ names. length names.items ≡ count) → IfOk r (λ names. HasNames sorted names.items) → IfOk r (λ names. AreNames literals names.items)
names_found literals found sorted count e moved all (Err x) size has = size
names_found literals found sorted count e moved all (Ok names) size has =
    are_names literals sorted names.items (subst (λ (ks : List Key). IsPermutation ks sorted) e moved) has (size ∙ all)
