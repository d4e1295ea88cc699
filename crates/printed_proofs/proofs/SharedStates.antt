-- The states of a printer that gives names to terms: what is known goes on being known.
use Rattle.std.proofs.Common.{◌≡◌, ℕ, ◌<◌, Bool, true, false, ◌||◌, Option, Some, None, List, [], ◌∷◌, ◌++◌, Contains, if◌then◌else◌}
use Rattle.std.proofs.Common.{find, bytes_eq, refl, sym, ap, ◌∙◌, subst, arith}
use Rattle.std.specs.Prelude.{max}
use Rattle.std.specs.Option.{option_or}
use Rattle.std.proofs.lemmas.List.Folds.{find-append, list_any-append}
use Rattle.std.proofs.lemmas.Slice.Eq.{bytes_eq-Decides}
use Rattle.term_model.specs.Heights.{height, highest, highest_bound}
use Rattle.term_model.specs.Terms.{Term, numeral, variable, operation, call, let_in, Terms, no_terms, term, Bindings, no_bindings, binding}
use Rattle.term_model.proofs.Lists.{contains_head, contains_later}
use Rattle.rule_model.specs.TermTests.{term_eq}
use Rattle.rule_model.proofs.TermTests.{term_eq_decides}
use Rattle.problem_text.specs.Alike.{SayTheSame}
use Rattle.problem_text.specs.Names.{Place}
use Rattle.problem_text.specs.PrintedTerms.{IsPrintable, MeansTerm}
use Rattle.problem_text.specs.Scripts.{Named, Script, with_let_name, with_named, with_term}
use Rattle.problem_text.specs.Words.{is_among}
use Rattle.problem_text.proofs.PrintedNames.{printable_behind, means_kept}
use Rattle.problem_text.proofs.PrintedTerms.{printable_then}
use Rattle.printed_proofs.specs.Shared.{Plan, planned, behind_as, behind_term, behind_terms, behind_pairs}
use Rattle.printed_proofs.specs.Naming.{IsPlan, IsReady, IsApart}

-- the name that a term is to have
pub record IsPlannedFor (plan : Plan) (t : Term) (n : Named) : Type 0 where
  pub there : Contains plan n
  pub meant : n.meant.tree ≡ t

pub planned_is : (plan : Plan) (t : Term) (n : Named) → planned plan t ≡ Some n → IsPlannedFor plan t n
planned_is [] t n e = absurd (let f : None ≡ Some n = e in cc)
planned_is (m ∷ plan) t n e = go (term_eq m.meant.tree t) refl (planned_is plan t n)
  where
    go : (test : Bool) → term_eq m.meant.tree t ≡ test → (planned plan t ≡ Some n → IsPlannedFor plan t n) → IsPlannedFor (m ∷ plan) t n
    go true same later =
        let first : Some m ≡ Some n = sym (rw same refl) ∙ e in
        let is : m ≡ n = cc in
        record {
          there = subst (λ x. Contains (m ∷ plan) x) is (contains_head m plan);
          meant = subst (λ (x : Named). x.meant.tree ≡ t) is ((term_eq_decides m.meant.tree t).0 same);
        }
    go false other later =
        let rest : planned plan t ≡ Some n = sym (rw other refl) ∙ e in
        let h = later rest in
        record { there = contains_later m n plan h.there; meant = h.meant }

one_name : (name : List ℕ) (m : List ℕ) → is_among (m ∷ []) name ≡ bytes_eq name m
one_name name m = go (bytes_eq name m) refl
  where
    go : (b : Bool) → bytes_eq name m ≡ b → is_among (m ∷ []) name ≡ bytes_eq name m
    go true e = rw e refl
    go false e = rw e refl

more_names : (xs : List (List ℕ)) (m name : List ℕ) → is_among (xs ++ m ∷ []) name ≡ (is_among xs name || bytes_eq name m)
more_names xs m name = list_any-append (bytes_eq name) xs (m ∷ []) ∙ ap (λ b. is_among xs name || b) (one_name name m)

other_way : (a b : List ℕ) → bytes_eq a b ≡ false → bytes_eq b a ≡ false
other_way a b e = go (bytes_eq b a) refl
  where
    go : (test : Bool) → bytes_eq b a ≡ test → test ≡ false
    go true f = let g = (bytes_eq-Decides a b).1 (sym ((bytes_eq-Decides b a).0 f)) in absurd (cc)
    go false f = refl

either : (a b : Bool) → (a || b) ≡ false → (a ≡ false) × (b ≡ false)
either true b e = absurd (let f : true ≡ false = e in cc)
either false b e = (refl, e)

neither : (a b : Bool) → a ≡ false → b ≡ false → (a || b) ≡ false
neither a b e f = rw (e, f) refl

-- What is ready stays so, and so does what is printable and apart from the names.
pub record Follows (plan : Plan) (s u : Script) : Type 0 where
  pub ready : IsReady plan s → IsReady plan u
  pub printable : (p : Place) (t : Term) → IsApart plan t → IsPrintable p s t → IsPrintable p u t
  pub sorts : u.sorts ≡ s.sorts

pub follow_then : (plan : Plan) (s u w : Script) → Follows plan s u → Follows plan u w → Follows plan s w
follow_then plan s u w a b = record {
  ready = λ h. b.ready (a.ready h);
  printable = λ p t apart k. b.printable p t apart (a.printable p t apart k);
  sorts = b.sorts ∙ a.sorts;
}

pub same_follow : (plan : Plan) (s u : Script) → SayTheSame s u → Follows plan s u
same_follow plan s u same = record {
  ready = λ r. record {
    given = λ n there e.
        let m = r.given n there (ap (λ (x : Script). is_among x.taken n.name) same ∙ e) in
        record {
          named = m.named;
          found = ap (λ (x : Script). find (λ k. bytes_eq k.name n.name) x.named) (sym same) ∙ m.found;
          is = m.is;
          closed = m.closed;
        };
    taken = λ name e.
        ap (λ (x : Script). find (λ k. bytes_eq k.name name) x.named) (sym same)
        ∙ r.taken name (ap (λ (x : Script). is_among x.taken name) same ∙ e);
  };
  printable = λ p t apart k. printable_then t p s u same k;
  sorts = ap (λ (x : Script). x.sorts) (sym same);
}

new_means : (s : Script) (n : Named) → find (λ m. bytes_eq m.name n.name) s.named ≡ None
    → find (λ m. bytes_eq m.name n.name) (s.named ++ n ∷ []) ≡ Some n
new_means s n none =
    let same = (bytes_eq-Decides n.name n.name).1 refl in
    let alone : find (λ (m : Named). bytes_eq m.name n.name) (n ∷ []) ≡ Some n = rw same refl in
    find-append (λ m. bytes_eq m.name n.name) s.named (n ∷ [])
    ∙ (ap (λ o. option_or o (find (λ m. bytes_eq m.name n.name) (n ∷ []))) none ∙ alone)

pub naming_follow : (plan : Plan) (s : Script) (n : Named) → IsPlan plan → Contains plan n → is_among s.taken n.name ≡ false
    → Follows plan s (with_named n s)
naming_follow plan s n sound there free = record {
  ready = λ r. record { given = λ m among e. given r m among (is_among s.taken m.name) refl e; taken = λ name e. taken r name e };
  printable = λ p t apart k. printable_behind t p s n (apart n there).0 k;
  sorts = refl;
}
  where
    given : (r : IsReady plan s) (m : Named) → Contains plan m → (test : Bool) → is_among s.taken m.name ≡ test
        → is_among (s.taken ++ n.name ∷ []) m.name ≡ true → MeansTerm (with_named n s) m.name m.meant
    given r m among true old e = means_kept s m.name m.meant n (r.given m among old)
    given r m among false new e =
        let last : bytes_eq m.name n.name ≡ true = sym (ap (λ b. b || bytes_eq m.name n.name) new) ∙ sym (more_names s.taken n.name m.name) ∙ e in
        let is : n ≡ m = sound.distinct n m there among (sym ((bytes_eq-Decides m.name n.name).0 last)) in
        subst (λ (x : Named). MeansTerm (with_named n s) x.name x.meant) is (record {
          named = n;
          found = new_means s n (r.taken n.name free);
          is = refl;
          closed = sound.closed n there;
        })

    taken : (r : IsReady plan s) (name : List ℕ) → is_among (s.taken ++ n.name ∷ []) name ≡ false
        → find (λ m. bytes_eq m.name name) (s.named ++ n ∷ []) ≡ None
    taken r name e =
        let both = either (is_among s.taken name) (bytes_eq name n.name) (sym (more_names s.taken n.name name) ∙ e) in
        let other = other_way name n.name both.1 in
        let alone : find (λ (m : Named). bytes_eq m.name name) (n ∷ []) ≡ None = rw other refl in
        find-append (λ m. bytes_eq m.name name) s.named (n ∷ [])
        ∙ (ap (λ o. option_or o (find (λ m. bytes_eq m.name name) (n ∷ []))) (r.taken name both.0) ∙ alone)

-- A name of a higher term is not given in a term.
max_parts : (a b h : ℕ) → max a b < h → (a < h) × (b < h)
max_parts a b h l = (grind (arith, l), grind (arith, l))

fresh_as : (plan : Plan) (s inside : Script) (t : Term) (n : Named) (o : Option Named) → IsPlan plan → Contains plan n
    → planned plan t ≡ o → height t < height n.meant.tree → is_among s.taken n.name ≡ false → is_among inside.taken n.name ≡ false
    → is_among (behind_as s o t inside).taken n.name ≡ false
fresh_as plan s inside t n None sound there is low free inner = inner
fresh_as plan s inside t n (Some m) sound there is low free inner = go (is_among s.taken m.name)
  where
    other : (test : Bool) → bytes_eq n.name m.name ≡ test → test ≡ false
    other true e =
        let p = planned_is plan t m is in
        let same : n ≡ m = sound.distinct n m there p.there ((bytes_eq-Decides n.name m.name).0 e) in
        let tree : n.meant.tree ≡ t = ap (λ (x : Named). x.meant.tree) same ∙ p.meant in
        let l : height t < height t = subst (λ x. height t < height x) tree low in
        absurd (omega (arith, l))
    other false e = refl

    go : (test : Bool) → is_among (if test then with_term t s else with_named m inside).taken n.name ≡ false
    go true = free
    go false = more_names inside.taken m.name n.name ∙ neither _ _ inner (other (bytes_eq n.name m.name) refl)

mutual
  unfolding height highest highest_bound

  fresh_term : (plan : Plan) (t : Term) (s : Script) (n : Named) → IsPlan plan → Contains plan n → height t < height n.meant.tree
      → is_among s.taken n.name ≡ false → is_among (behind_term plan s t).taken n.name ≡ false
  fresh_term plan (numeral k) s n sound there low free = free
  fresh_term plan (variable x) s n sound there low free = free
  fresh_term plan (operation op ts) s n sound there low free =
      fresh_as plan s _ (operation op ts) n _ sound there refl low free (fresh_terms plan ts s n sound there (omega (arith, low)) free)
  fresh_term plan (call f ts) s n sound there low free =
      fresh_as plan s _ (call f ts) n _ sound there refl low free (fresh_terms plan ts s n sound there (omega (arith, low)) free)
  fresh_term plan (let_in bs t) s n sound there low free =
      let both = max_parts (highest_bound bs) (height t) (height n.meant.tree) (omega (arith, low)) in
      fresh_term plan t (behind_pairs plan s bs) n sound there both.1 (fresh_pairs plan bs s n sound there both.0 free)

  pub fresh_terms : (plan : Plan) (ts : Terms) (s : Script) (n : Named) → IsPlan plan → Contains plan n → highest ts < height n.meant.tree
      → is_among s.taken n.name ≡ false → is_among (behind_terms plan s ts).taken n.name ≡ false
  fresh_terms plan no_terms s n sound there low free = free
  fresh_terms plan (term t ts) s n sound there low free =
      let both = max_parts (height t) (highest ts) (height n.meant.tree) low in
      fresh_terms plan ts (behind_term plan s t) n sound there both.1 (fresh_term plan t s n sound there both.0 free)

  fresh_pairs : (plan : Plan) (bs : Bindings) (s : Script) (n : Named) → IsPlan plan → Contains plan n → highest_bound bs < height n.meant.tree
      → is_among s.taken n.name ≡ false → is_among (behind_pairs plan s bs).taken n.name ≡ false
  fresh_pairs plan no_bindings s n sound there low free = free
  fresh_pairs plan (binding x t bs) s n sound there low free =
      let both = max_parts (height t) (highest_bound bs) (height n.meant.tree) low in
      fresh_pairs plan bs (behind_term plan (with_let_name x.name s) t) n sound there both.1
      (fresh_term plan t (with_let_name x.name s) n sound there both.0 free)

-- The name of a term is not given among its arguments.
pub own_name_fresh : (plan : Plan) (t : Term) (ts : Terms) (s : Script) (n : Named) → IsPlan plan → planned plan t ≡ Some n
    → highest ts < height t → is_among s.taken n.name ≡ false → is_among (behind_terms plan s ts).taken n.name ≡ false
own_name_fresh plan t ts s n sound is low free =
    let p = planned_is plan t n is in
    fresh_terms plan ts s n sound p.there (subst (λ x. highest ts < height x) (sym p.meant) low) free

-- Each state is followed by the state behind what is printed in it.
follow_as : (plan : Plan) (s inside : Script) (t : Term) (o : Option Named) → IsPlan plan → planned plan t ≡ o → Follows plan s inside
    → ((n : Named) → o ≡ Some n → is_among s.taken n.name ≡ false → is_among inside.taken n.name ≡ false) → Follows plan s (behind_as s o t inside)
follow_as plan s inside t None sound is inner free = inner
follow_as plan s inside t (Some m) sound is inner free = go (is_among s.taken m.name) refl
  where
    go : (test : Bool) → is_among s.taken m.name ≡ test → Follows plan s (if test then with_term t s else with_named m inside)
    go true e = same_follow plan s (with_term t s) refl
    go false e =
        follow_then plan s inside (with_named m inside) inner
        (naming_follow plan inside m sound (planned_is plan t m is).there (free m refl e))

mutual
  unfolding height

  pub term_follow : (plan : Plan) (t : Term) (s : Script) → IsPlan plan → Follows plan s (behind_term plan s t)
  term_follow plan (numeral n) s sound = same_follow plan s (with_term (numeral n) s) refl
  term_follow plan (variable x) s sound = same_follow plan s (with_term (variable x) s) refl
  term_follow plan (operation op ts) s sound =
      follow_as plan s (with_term (operation op ts) (behind_terms plan s ts)) (operation op ts) _ sound refl
      (follow_then plan s (behind_terms plan s ts) _ (terms_follow plan ts s sound) (same_follow plan _ _ refl))
      (λ n is free. own_name_fresh plan (operation op ts) ts s n sound is (omega arith) free)
  term_follow plan (call f ts) s sound =
      follow_as plan s (with_term (call f ts) (behind_terms plan s ts)) (call f ts) _ sound refl
      (follow_then plan s (behind_terms plan s ts) _ (terms_follow plan ts s sound) (same_follow plan _ _ refl))
      (λ n is free. own_name_fresh plan (call f ts) ts s n sound is (omega arith) free)
  term_follow plan (let_in bs t) s sound =
      let inside : Script = behind_pairs plan s bs in
      follow_then plan s inside _ (pairs_follow plan bs s sound)
      (follow_then plan inside (behind_term plan inside t) _ (term_follow plan t inside sound) (same_follow plan _ _ refl))

  pub terms_follow : (plan : Plan) (ts : Terms) (s : Script) → IsPlan plan → Follows plan s (behind_terms plan s ts)
  terms_follow plan no_terms s sound = same_follow plan s s refl
  terms_follow plan (term t ts) s sound =
      follow_then plan s (behind_term plan s t) _ (term_follow plan t s sound) (terms_follow plan ts (behind_term plan s t) sound)

  pub pairs_follow : (plan : Plan) (bs : Bindings) (s : Script) → IsPlan plan → Follows plan s (behind_pairs plan s bs)
  pairs_follow plan no_bindings s sound = same_follow plan s s refl
  pairs_follow plan (binding x t bs) s sound =
      let named : Script = with_let_name x.name s in
      follow_then plan s named _ (same_follow plan s named refl)
      (follow_then plan named (behind_term plan named t) _ (term_follow plan t named sound)
      (pairs_follow plan bs (behind_term plan named t) sound))
