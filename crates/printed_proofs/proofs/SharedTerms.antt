-- Terms that are printed with names are read back.
use Rattle.std.proofs.Common.{◌≡◌, ℕ, ◌+◌, length, Bool, true, false, Option, Some, None, List, [], ◌∷◌, ◌++◌, map, if◌then◌else◌, Contains, codes}
use Rattle.std.proofs.Common.{refl, sym, ap, ◌∙◌, subst, arith}
use Rattle.std.proofs.lemmas.List.Sums.{AllPass-from_list_all}
use Rattle.sexpr.specs.Characters.{is_word_byte, is_mark}
use Rattle.sexpr.specs.Grammar.{IsWord}
use Rattle.sexpr.specs.Items.{Item, list, Items, no_items, item, place_of}
use Rattle.sexpr.specs.Printed.{symbol_item, placed, placed_all, printed, IsSpelledItem, AreSpelledItems}
use Rattle.sexpr.proofs.PrintedNumerals.{decimal_is_word}
use Rattle.term_model.specs.declared.symbols.Sort.{Sort}
use Rattle.term_model.specs.Terms.{Term, numeral, variable, operation, call, let_in, Terms, no_terms, term, Bindings, no_bindings, binding}
use Rattle.term_model.specs.Sorts.{AreBound, IsOf, AreOf}
use Rattle.term_model.specs.Heights.{height}
use Rattle.term_model.proofs.Sorting.{one_sort}
use Rattle.sym_table.specs.Words.{operator_symbol}
use Rattle.text_items.specs.ItemShapes.{Name, pairs_fault}
use Rattle.problem_text.specs.Forms.{bindings_fault, Forms, no_forms}
use Rattle.problem_text.specs.Forms.{form_of, forms_of, binds_of, binds_in}
use Rattle.problem_text.specs.TypedTerms.{Typed}
use Rattle.problem_text.specs.Outcomes.{done}
use Rattle.problem_text.specs.Scripts.{Named, Script, is_taken, with_let_name, with_named, with_term}
use Rattle.problem_text.specs.Names.{place_inside, Place, Bound, innermost, itself, Meaning, function, operator, meaning_of, meaning_applied, trees, sorts_of}
use Rattle.problem_text.specs.Terms.{term_from, terms_from, bounds_from, read_term}
use Rattle.problem_text.specs.Words.{is_among}
use Rattle.problem_text.specs.PrintedTerms.{applied_item, named_item, bounds_in, BindsSome, MayLead, MeansTerm, IsPrintable, ArePrintable, AreBoundPrintable}
use Rattle.problem_text.specs.PrintedTerms.{HaveNotName, AreBoundWithoutName}
use Rattle.problem_text.proofs.PrintedForms.{symbol_formed, application_formed, numeral_formed, let_formed, pair_formed, pair_well}
use Rattle.problem_text.proofs.PrintedNames.{naming_read, name_read}
use Rattle.problem_text.proofs.PrintedSpelling.{applied_spelled}
use Rattle.problem_text.proofs.PrintedSteps.{number_read, symbol_read, application_read, both_read, let_read, bound_read}
use Rattle.problem_text.proofs.PrintedSteps.{variable_applied, operation_applied, call_applied}
use Rattle.printed_proofs.specs.Shared.{Plan, planned, shared_as, behind_as, shared_item, shared_items, shared_pairs, behind_term, behind_terms, behind_pairs}
use Rattle.printed_proofs.specs.Naming.{IsPlan, IsReady, BindNot, AreOtherNames, IsApart, IsPlaceApart}
use Rattle.printed_proofs.proofs.SharedStates.{planned_is, Follows, same_follow, term_follow, pairs_follow, own_name_fresh}

-- what is asked of a place
pub record IsPlace (plan : Plan) (p : Place) : Type 0 where
  pub free : p.settings.limit ≡ None
  pub kept : p.settings.replaces_lets ≡ false
  pub apart : IsPlaceApart plan p

-- the variables of lets have other names
let_scope : (bs : Bindings) (scope : List Bound) (name : List ℕ) → AreOtherNames name bs → innermost scope name ≡ None
    → innermost (map (λ b. itself b.variable) (bounds_in bs) ++ scope) name ≡ None
let_scope no_bindings scope name other none = none
let_scope (binding x t bs) scope name other none =
    let first = other.0 in let rest = let_scope bs scope name other.2 none in rw first rest

let_place : (plan : Plan) (p : Place) (bs : Bindings) → IsPlace plan p
    → ((n : Named) → Contains plan n → AreOtherNames n.name bs) → IsPlace plan (place_inside (bounds_in bs) p)
let_place plan p bs h other = record {
  free = h.free;
  kept = h.kept;
  apart = λ n there. scope n (other n there) (h.apart n there);
}
  where
    scope : (n : Named) → AreOtherNames n.name bs → innermost p.scope n.name ≡ None → innermost (place_inside (bounds_in bs) p).scope n.name ≡ None
    scope n apart none =
        ap (λ (b : Bool). innermost ((if b then bounds_in bs else map (λ b. itself b.variable) (bounds_in bs)) ++ p.scope) n.name) h.kept
        ∙ let_scope bs p.scope n.name apart none

-- what is apart in the parts of a term
abbrev pub AreApart : Plan → Terms → Type 0
AreApart plan ts = (n : Named) → Contains plan n → HaveNotName n.name ts × BindNot n.name ts

abbrev pub ArePairsApart : Plan → Bindings → Type 0
ArePairsApart plan bs = (n : Named) → Contains plan n → AreBoundWithoutName n.name bs × AreOtherNames n.name bs

all_then : (plan : Plan) (p : Place) (s u : Script) → Follows plan s u → (ts : Terms) → AreApart plan ts → ArePrintable p s ts → ArePrintable p u ts
all_then plan p s u f no_terms apart k = tt
all_then plan p s u f (term t ts) apart k =
    (f.printable p t (λ n c. ((apart n c).0.0, (apart n c).1.0)) k.0, all_then plan p s u f ts (λ n c. ((apart n c).0.1, (apart n c).1.1)) k.1)

pairs_then : (plan : Plan) (p : Place) (s u : Script) → Follows plan s u → (bs : Bindings) (earlier : List (List ℕ)) → ArePairsApart plan bs
    → AreBoundPrintable p s earlier bs → AreBoundPrintable p u earlier bs
pairs_then plan p s u f no_bindings earlier apart k = tt
pairs_then plan p s u f (binding x t bs) earlier apart k = (
  k.0,
  k.1,
  f.printable p t (λ n c. ((apart n c).0.0, (apart n c).1.1)) k.2,
  pairs_then plan p s u f bs (x.name ∷ earlier) (λ n c. ((apart n c).0.1, (apart n c).1.2)) k.3,
)

-- a term that is to have a name
named_is : (plan : Plan) (t : Term) (sort : Sort) (n : Named) → IsPlan plan → planned plan t ≡ Some n → IsOf t sort
    → n.meant ≡ record { tree = t; sort = sort }
named_is plan t sort n sound is of =
    let p = planned_is plan t n is in
    let tree : n.meant.tree ≡ t = p.meant in
    let same : n.meant.sort ≡ sort =
    one_sort n.meant.tree n.meant.sort sort (sound.sorted n p.there) (subst (λ x. IsOf x sort) (sym tree) of) in
    ap (λ x. record { tree = x; sort = n.meant.sort }) tree ∙ ap (λ o. record { tree = t; sort = o }) same

as_read : (plan : Plan) (p : Place) (s behind : Script) (whole : Item) (t : Term) (sort : Sort) (o : Option Named) (at : ℕ) → IsPlace plan p
    → IsPlan plan → IsReady plan s → IsOf t sort → planned plan t ≡ o
    → ((k : ℕ) → read_term (placed k whole) p s ≡ done (record { tree = t; sort = sort }) behind)
    → ((n : Named) → o ≡ Some n → is_among s.taken n.name ≡ false → is_among behind.taken n.name ≡ false)
    → read_term (placed at (shared_as s o whole)) p s ≡ done (record { tree = t; sort = sort }) (behind_as s o t behind)
as_read plan p s behind whole t sort None at place sound ready of is read fresh = read at
as_read plan p s behind whole t sort (Some n) at place sound ready of is read fresh = go (is_among s.taken n.name) refl
  where
    typed : Typed
    typed = record { tree = t; sort = sort }

    there : Contains plan n
    there = (planned_is plan t n is).there

    go : (test : Bool) → is_among s.taken n.name ≡ test
        → read_term (placed at (if test then symbol_item n.name else named_item whole n.name)) p s
        ≡ done typed (if test then with_term t s else with_named n behind)
    go true e =
        let means : MeansTerm s n.name typed = subst (λ m. MeansTerm s n.name m) (named_is plan t sort n sound is of) (ready.given n there e) in
        name_read n.name typed p s at place.free place.kept (sound.usable n there) (place.apart n there) means
    go false e =
        let word = sound.free_word n there in
        let new = fresh n refl e in
        let apart : is_taken behind n.name ≡ false = rw (word, new) refl in
        naming_read whole n.name typed p s behind at place.free (sound.symbol n there) read apart
        ∙ ap (λ m. done typed (with_named (record { name = n.name; meant = m }) behind)) (sym (named_is plan t sort n sound is of))

pub record AreSharedTo (p : Place) (s : Script) (fs : Forms) (ts : Terms) (sorts : List Sort) (u : Script) : Type 0 where
  pub values : List Typed
  pub read : terms_from fs p s ≡ done values u
  pub are : trees values ≡ ts
  pub of : sorts_of values ≡ sorts

-- a head with its arguments, or alone
applied : (at : ℕ) (plan : Plan) (p : Place) (s : Script) (name : List ℕ) (m : Meaning) (ts : Terms) (sorts : List Sort) (t : Typed)
    → p.settings.limit ≡ None → MayLead name → meaning_of p s name ≡ Some m
    → ((k : ℕ) (before : List ℕ) → AreSharedTo p s (forms_of (placed_all k before (shared_items plan s ts))) ts sorts (behind_terms plan s ts))
    → ((values : List Typed) → trees values ≡ ts → sorts_of values ≡ sorts → meaning_applied m values ≡ Some t)
    → read_term (placed at (applied_item name (shared_items plan s ts))) p s ≡ done t (with_term t.tree (behind_terms plan s ts))
unfolding terms_from forms_of
applied at plan p s name m no_terms sorts t free head means args is =
    ap (λ f. term_from f p s) (symbol_formed at name head.usable) ∙ symbol_read p free at name m t s means (is_alone (args 0 []))
  where
    none : (values : List Typed) → trees values ≡ no_terms → values ≡ []
    none [] e = refl
    none (v ∷ vs) e = absurd (cc)

    is_alone : AreSharedTo p s no_forms no_terms sorts s → meaning_applied m [] ≡ Some t
    is_alone a = let e = none a.values a.are in ap (meaning_applied m) (sym e) ∙ is a.values a.are a.of
applied at plan p s name m (term a ts) sorts t free head means args is =
    let k : ℕ = at + 1 + 0 in
    let next : ℕ = k + length (printed (symbol_item name)) in
    let head_item = placed k (symbol_item name) in
    let head_name : Name = record { place = place_of head_item; name = name } in
    let others : Items = shared_items plan (behind_term plan s a) ts in
    let rest : Items = placed_all (next + 1 + length (printed (shared_item plan s a))) (32 ∷ []) others in
    let forms = forms_of (placed_all next (32 ∷ []) (shared_items plan s (term a ts))) in
    let g = args next (32 ∷ []) in
    ap (λ f. term_from f p s) (application_formed at head_item (placed (next + 1) (shared_item plan s a)) rest name (head.symbol.named k) head)
    ∙ application_read p free at head_name forms m g.values t s (behind_terms plan s (term a ts)) means g.read (is g.values g.are g.of)

pairs_well : (at : ℕ) (before : List ℕ) (plan : Plan) (s : Script) (bs : Bindings) (earlier : List (List ℕ)) (p : Place) (u : Script)
    → AreBoundPrintable p u earlier bs → pairs_fault (placed_all at before (shared_pairs plan s bs)) ≡ None
pairs_well at before plan s no_bindings earlier p u k = refl
pairs_well at before plan s (binding x t bs) earlier p u k =
    let a : ℕ = at + length before in
    let b : ℕ = a + 1 + 0 in
    let c : ℕ = b + length (printed (symbol_item x.name)) + 1 in
    let named : Script = with_let_name x.name s in
    let first : Item = shared_item plan named t in
    let pair : Item = list 0 (item (symbol_item x.name) (item first no_items)) in
    let next : ℕ = a + length (printed pair) in
    let others : Items = shared_pairs plan (behind_term plan named t) bs in
    pair_well a (placed b (symbol_item x.name)) (placed c first) (placed_all next (32 ∷ []) others) x.name (k.0.named b)
    (pairs_well next (32 ∷ []) plan (behind_term plan named t) bs (x.name ∷ earlier) p u k.3)

some_well : (at : ℕ) (plan : Plan) (s : Script) (bs : Bindings) (p : Place) (u : Script) → BindsSome bs → AreBoundPrintable p u [] bs
    → bindings_fault (placed at (list 0 (shared_pairs plan s bs))) ≡ None
some_well at plan s no_bindings p u some k = absurd some
some_well at plan s (binding x t bs) p u some k = pairs_well (at + 1) [] plan s (binding x t bs) [] p u k

mutual
  unfolding terms_from bounds_from forms_of height

  pub shared_read : (at : ℕ) (plan : Plan) (t : Term) (sort : Sort) (p : Place) (s : Script) → IsPlace plan p → IsPlan plan → IsReady plan s
      → IsOf t sort → IsPrintable p s t → IsApart plan t
      → read_term (placed at (shared_item plan s t)) p s ≡ done (record { tree = t; sort = sort }) (behind_term plan s t)
  shared_read at plan (numeral n) sort p s place sound ready of k apart =
      ap (λ f. term_from f p s) (numeral_formed at n k)
      ∙ (number_read p place.free n at s ∙ ap (λ o. done (record { tree = numeral n; sort = o }) (with_term (numeral n) s)) (sym of))
  shared_read at plan (variable x) sort p s place sound ready of k apart =
      ap (λ f. term_from f p s) (symbol_formed at x.name k.0.0)
      ∙ symbol_read p place.free at x.name _ (record { tree = variable x; sort = sort }) s k.1 (let e = of in variable_applied x sort e)
  shared_read at plan (operation op ts) sort p s place sound ready of k apart =
      as_read plan p s (with_term (operation op ts) (behind_terms plan s ts)) (applied_item (operator_symbol op) (shared_items plan s ts))
      (operation op ts) sort _ at place sound ready of refl
      (λ j. applied j plan p s (operator_symbol op) (operator op) ts of.sorts _ place.free k.0 k.1
      (λ i before. shared_reads i before plan ts of.sorts p s place sound ready of.arguments k.2 (λ n c. ((apart n c).0.1, (apart n c).1)))
      (λ values are sorts. operation_applied op ts sort of.sorts values are sorts of.is))
      (λ n is free. own_name_fresh plan (operation op ts) ts s n sound is (omega arith) free)
  shared_read at plan (call f ts) sort p s place sound ready of k apart =
      as_read plan p s (with_term (call f ts) (behind_terms plan s ts)) (applied_item f.name (shared_items plan s ts)) (call f ts) sort _ at place
      sound ready of refl
      (λ j. applied j plan p s f.name (function f) ts of.sorts _ place.free k.0 k.1
      (λ i before. shared_reads i before plan ts of.sorts p s place sound ready of.arguments k.2 (λ n c. ((apart n c).0.1, (apart n c).1)))
      (λ values are sorts. call_applied f ts sort of.sorts values are sorts of.is))
      (λ n is free. own_name_fresh plan (call f ts) ts s n sound is (omega arith) free)
  shared_read at plan (let_in bs t) sort p s place sound ready of k apart =
      let b : ℕ = at + 1 + 0 in
      let c : ℕ = b + 3 + 1 in
      let u : Script = behind_pairs plan s bs in
      let d : ℕ = c + length (printed (list 0 (shared_pairs plan s bs))) + 1 in
      let pairs : Item = placed c (list 0 (shared_pairs plan s bs)) in
      let body : Item = placed d (shared_item plan u t) in
      let there = pairs_follow plan bs s sound in
      let within : Place = place_inside (bounds_in bs) p in
      let f = bounds_shared (c + 1) [] plan bs [] p s place sound ready of.0 k.2 (λ n h. ((apart n h).0.0, (apart n h).1.0)) in
      let body_apart : IsApart plan t = λ n h. ((apart n h).0.1, (apart n h).1.1) in
      let g = shared_read d plan t sort within u (let_place plan p bs place (λ n h. (apart n h).1.0)) sound (there.ready ready) of.1
      (there.printable within t body_apart k.3) body_apart in
      ap (λ f. term_from f p s) (let_formed at b pairs body (some_well c plan s bs p s k.1 k.2))
      ∙ let_read at bs (binds_of pairs) (form_of body) t sort p s u (behind_term plan u t) place.free k.0 f g

  pub shared_reads : (at : ℕ) (before : List ℕ) (plan : Plan) (ts : Terms) (sorts : List Sort) (p : Place) (s : Script) → IsPlace plan p
      → IsPlan plan → IsReady plan s → AreOf ts sorts → ArePrintable p s ts → AreApart plan ts
      → AreSharedTo p s (forms_of (placed_all at before (shared_items plan s ts))) ts sorts (behind_terms plan s ts)
  shared_reads at before plan no_terms [] p s place sound ready of k apart = record { values = []; read = refl; are = refl; of = refl }
  shared_reads at before plan no_terms (o ∷ sorts) p s place sound ready of k apart = absurd of
  shared_reads at before plan (term t ts) [] p s place sound ready of k apart = absurd of
  shared_reads at before plan (term t ts) (o ∷ sorts) p s place sound ready of k apart =
      let u : Script = behind_term plan s t in
      let first : Item = placed (at + length before) (shared_item plan s t) in
      let next : ℕ = at + length before + length (printed (shared_item plan s t)) in
      let others : Forms = forms_of (placed_all next (32 ∷ []) (shared_items plan u ts)) in
      let follow = term_follow plan t s sound in
      let rest_apart : AreApart plan ts = λ n c. ((apart n c).0.1, (apart n c).1.1) in
      let f = shared_read (at + length before) plan t o p s place sound ready of.0 k.0 (λ n c. ((apart n c).0.0, (apart n c).1.0)) in
      let g = shared_reads next (32 ∷ []) plan ts sorts p u place sound (follow.ready ready) of.1 (all_then plan p s u follow ts rest_apart k.1)
      rest_apart in
      record {
        values = record { tree = t; sort = o } ∷ g.values;
        read = both_read p place.free (form_of first) others _ g.values s u (behind_terms plan u ts) f g.read;
        are = ap (term t) g.are;
        of = ap (λ l. o ∷ l) g.of;
      }

  pub bounds_shared : (at : ℕ) (before : List ℕ) (plan : Plan) (bs : Bindings) (earlier : List (List ℕ)) (p : Place) (s : Script) → IsPlace plan p
      → IsPlan plan → IsReady plan s → AreBound bs → AreBoundPrintable p s earlier bs → ArePairsApart plan bs
      → bounds_from (binds_in (placed_all at before (shared_pairs plan s bs))) earlier p s ≡ done (bounds_in bs) (behind_pairs plan s bs)
  bounds_shared at before plan no_bindings earlier p s place sound ready of k apart = refl
  bounds_shared at before plan (binding x t bs) earlier p s place sound ready of k apart =
      let a : ℕ = at + length before in
      let b : ℕ = a + 1 + 0 in
      let c : ℕ = b + length (printed (symbol_item x.name)) + 1 in
      let named : Script = with_let_name x.name s in
      let u : Script = behind_term plan named t in
      let first : Item = shared_item plan named t in
      let pair : Item = list 0 (item (symbol_item x.name) (item first no_items)) in
      let next : ℕ = a + length (printed pair) in
      let n : Name = record { place = place_of (placed b (symbol_item x.name)); name = x.name } in
      let rest : Items = placed_all next (32 ∷ []) (shared_pairs plan u bs) in
      let start = same_follow plan s named refl in
      let follow = term_follow plan t named sound in
      let t_apart : IsApart plan t = λ n c. ((apart n c).0.0, (apart n c).1.1) in
      let rest_apart : ArePairsApart plan bs = λ n c. ((apart n c).0.1, (apart n c).1.2) in
      let f = shared_read c plan t x.sort p named place sound (start.ready ready) of.0 (start.printable p t t_apart k.2) t_apart in
      let known = pairs_then plan p named u follow bs (x.name ∷ earlier) rest_apart
      (pairs_then plan p s named start bs (x.name ∷ earlier) rest_apart k.3) in
      let g = bounds_shared next (32 ∷ []) plan bs (x.name ∷ earlier) p u place sound (follow.ready (start.ready ready)) of.1 known rest_apart in
      ap (λ l. bounds_from l earlier p s) (pair_formed a (placed b (symbol_item x.name)) (placed c first) rest x.name (k.0.named b))
      ∙ bound_read n (form_of (placed c first)) (binds_in rest) earlier x t bs p s u (behind_pairs plan u bs) refl k.1 f g

-- what is printed is spelled well
let_spelled : IsWord (codes "let")
unfolding is_word_byte is_mark
let_spelled = record {
  some = omega arith;
  bytes = AllPass-from_list_all is_word_byte (codes "let") refl;
  number = λ digit. absurd (let f : false ≡ true = digit in cc);
}

mark_spelled : IsWord (codes "!")
unfolding is_word_byte is_mark
mark_spelled = record {
  some = omega arith;
  bytes = AllPass-from_list_all is_word_byte (codes "!") refl;
  number = λ digit. absurd (let f : false ≡ true = digit in cc);
}

keyword_spelled : IsWord (codes ":named")
unfolding is_word_byte is_mark
keyword_spelled = record {
  some = omega arith;
  bytes = AllPass-from_list_all is_word_byte (codes ":named") refl;
  number = λ digit. absurd (let f : false ≡ true = digit in cc);
}

as_spelled : (plan : Plan) (s : Script) (o : Option Named) (t : Term) (whole : Item) → IsPlan plan → planned plan t ≡ o → IsSpelledItem whole
    → IsSpelledItem (shared_as s o whole)
as_spelled plan s None t whole sound is spelled = spelled
as_spelled plan s (Some n) t whole sound is spelled = go (is_among s.taken n.name)
  where
    symbol : IsSpelledItem (symbol_item n.name)
    symbol = (sound.symbol n (planned_is plan t n is).there).spelled

    go : (test : Bool) → IsSpelledItem (if test then symbol_item n.name else named_item whole n.name)
    go true = symbol
    go false = (mark_spelled, (spelled, (keyword_spelled, (symbol, tt))))

mutual
  pub shared_spelled : (plan : Plan) (t : Term) (s : Script) (p : Place) (u : Script) → IsPlan plan → IsPrintable p u t
      → IsSpelledItem (shared_item plan s t)
  shared_spelled plan (numeral n) s p u sound k = decimal_is_word n (omega (arith, k))
  shared_spelled plan (variable x) s p u sound k = k.0.1.spelled
  shared_spelled plan (operation op ts) s p u sound k =
      as_spelled plan s _ (operation op ts) _ sound refl
      (applied_spelled (operator_symbol op) (shared_items plan s ts) k.0.symbol (all_shared_spelled plan ts s p u sound k.2))
  shared_spelled plan (call f ts) s p u sound k =
      as_spelled plan s _ (call f ts) _ sound refl
      (applied_spelled f.name (shared_items plan s ts) k.0.symbol (all_shared_spelled plan ts s p u sound k.2))
  shared_spelled plan (let_in bs t) s p u sound k = (
    let_spelled,
    (
      pairs_shared_spelled plan bs s [] p u sound k.2,
      (shared_spelled plan t (behind_pairs plan s bs) (place_inside (bounds_in bs) p) u sound k.3, tt),
    ),
  )

  all_shared_spelled : (plan : Plan) (ts : Terms) (s : Script) (p : Place) (u : Script) → IsPlan plan → ArePrintable p u ts
      → AreSpelledItems (shared_items plan s ts)
  all_shared_spelled plan no_terms s p u sound k = tt
  all_shared_spelled plan (term t ts) s p u sound k =
      (shared_spelled plan t s p u sound k.0, all_shared_spelled plan ts (behind_term plan s t) p u sound k.1)

  pairs_shared_spelled : (plan : Plan) (bs : Bindings) (s : Script) (earlier : List (List ℕ)) (p : Place) (u : Script) → IsPlan plan
      → AreBoundPrintable p u earlier bs → AreSpelledItems (shared_pairs plan s bs)
  pairs_shared_spelled plan no_bindings s earlier p u sound k = tt
  pairs_shared_spelled plan (binding x t bs) s earlier p u sound k = (
    (k.0.spelled, (shared_spelled plan t (with_let_name x.name s) p u sound k.2, tt)),
    pairs_shared_spelled plan bs (behind_term plan (with_let_name x.name s) t) (x.name ∷ earlier) p u sound k.3,
  )
