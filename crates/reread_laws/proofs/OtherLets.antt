-- A term that is read with lets kept is read the same with lets replaced, where no term that was read on the way has a let.
use Rattle.std.proofs.Common.{◌≡◌, ℕ, Bool, true, false, ◌||◌, ◌++◌, if◌then◌else◌, Option, Some, None, IfSome, List, [], ◌∷◌, map}
use Rattle.std.proofs.Common.{find, option_map, option_and_then, bytes_eq, refl, sym, ap, ◌∙◌, subst}
use Rattle.std.specs.List.{AllByRecursion, list_all}
use Rattle.std.specs.Option.{option_or}
use Rattle.sexpr.specs.declared.causes.Cause.{Cause}
use Rattle.sexpr.specs.declared.causes.Cause.TheVariants.{Repeated, TooHigh, SortMismatch}
use Rattle.term_model.specs.declared.symbols.Op.{Op}
use Rattle.term_model.specs.declared.symbols.Sort.{Sort}
use Rattle.term_model.specs.Heights.{height}
use Rattle.term_model.specs.Terms.{Var, var_eq, Fun, Term, numeral, variable, operation, call, let_in, Terms, no_terms, term}
use Rattle.term_model.proofs.Lists.{all_joined}
use Rattle.term_model.proofs.Tests.{var_eq_decides}
use Rattle.rule_model.specs.Replacement.{replaced_by, replaced, replaced_all, free_variables, HasNoLet, HaveNoLet}
use Rattle.text_items.specs.ItemShapes.{Name}
use Rattle.problem_text.specs.Words.{is_among, is_built_in, operator_named}
use Rattle.problem_text.specs.Forms.{Form, faulty, number, symbol, application, let_form, annotated, Forms, no_forms, form, LetBinds, no_binds, bind}
use Rattle.problem_text.specs.Limits.{is_low}
use Rattle.problem_text.specs.TypedTerms.{Typed}
use Rattle.problem_text.specs.Outcomes.{Outcome, done, refuse}
use Rattle.problem_text.specs.Scripts.{Macro, Named, Script, is_taken, with_named, with_term, with_let_name}
use Rattle.problem_text.specs.Names.{Bound, itself, innermost, is_bound, replacement, Place, Meaning, value, macro, function, operator}
use Rattle.problem_text.specs.Names.{meaning_of_bound, meaning_of_named, meaning_of, meaning_applied, refusal_of, place_inside, let_bindings_of, let_term}
use Rattle.problem_text.specs.Terms.{settled, with_meaning, with_names, term_from, terms_from, bounds_from}
use Rattle.problem_text.proofs.Outcomes.{if_found}
use Rattle.reread_laws.proofs.SameReadings.{ReadsSame, same_then, never_then, same_done, same_unless}
use Rattle.reread_laws.proofs.SinceTerms.{AreSince, IsSince, one_longer, one_less_since}

-- variables that stand for themselves
abbrev pub AreThemselves : List Bound → Type 0
AreThemselves scope = AllByRecursion (λ b. b.stands_for ≡ variable b.variable) scope

put_for_itself : (scope : List Bound) (x : Var) → AreThemselves scope → replaced_by (replacement scope) x ≡ variable x
put_for_itself [] x h = refl
put_for_itself (b ∷ scope) x h = go (var_eq b.variable x) refl (put_for_itself scope x h.1)
  where
    go : (test : Bool) → var_eq b.variable x ≡ test → replaced_by (replacement scope) x ≡ variable x
        → (if test then b.stands_for else replaced_by (replacement scope) x) ≡ variable x
    go true e rest = h.0 ∙ ap variable ((var_eq_decides b.variable x).0 e)
    go false e rest = rest

module _ (scope : List Bound) (themselves : AreThemselves scope) where
  mutual
    unfolding replaced

    same_term : (t : Term) → HasNoLet t → replaced (replacement scope) t ≡ t
    same_term (numeral n) h = refl
    same_term (variable x) h = put_for_itself scope x themselves
    same_term (operation op ts) h = ap (operation op) (same_all ts h)
    same_term (call f ts) h = ap (call f) (same_all ts h)
    same_term (let_in bs t) h = absurd h

    same_all : (ts : Terms) → HaveNoLet ts → replaced_all (replacement scope) ts ≡ ts
    same_all no_terms h = refl
    same_all (term t ts) h =
        let e = same_term t h.0 in
        let f = same_all ts h.1 in
        cc

-- the same place, with lets replaced
abbrev pub replacing : Place → Place
replacing p = record p { settings = record p.settings { replaces_lets = true } }

-- what a meaning is there
abbrev put_into : Place → Typed → Typed
put_into p t = record { tree = replaced (replacement p.scope) t.tree; sort = t.sort }

abbrev replaced_meaning : Place → Meaning → Meaning
replaced_meaning p (value t) = value (put_into p t)
replaced_meaning p (macro m) = macro m
replaced_meaning p (function f) = function f
replaced_meaning p (operator op) = operator op

-- lets are kept, and the variables in scope stand for themselves
pub record IsKeeping (p : Place) : Type 0 where
  pub keeps : p.settings.replaces_lets ≡ false
  pub themselves : AreThemselves p.scope

module _ (p : Place) (keeping : IsKeeping p) where
  same_bound : (b : Bound) → b.stands_for ≡ variable b.variable → meaning_of_bound b ≡ replaced_meaning p (meaning_of_bound b)
  same_bound b is =
      ap (λ t. value (record { tree = t; sort = b.variable.sort }))
      (is ∙ sym (ap (replaced (replacement p.scope)) is ∙ same_term p.scope keeping.themselves (variable b.variable) tt))

  same_functions : (m : Option Macro) (f : Option Fun) (op : Option Op)
      → option_or (option_map macro m) (option_or (option_map function f) (option_map operator op))
      ≡ option_map (replaced_meaning p) (option_or (option_map macro m) (option_or (option_map function f) (option_map operator op)))
  same_functions (Some m) f op = refl
  same_functions None (Some f) op = refl
  same_functions None None (Some op) = refl
  same_functions None None None = refl

  same_named : (t : Typed) (rest : Option Meaning) → rest ≡ option_map (replaced_meaning p) rest
      → option_or (meaning_of_named (replacing p) t) rest ≡ option_map (replaced_meaning p) (option_or (meaning_of_named p t) rest)
  same_named t rest same = go (list_all (is_bound p.scope) (free_variables t.tree)) p.settings.replaces_lets keeping.keeps
    where
      go : (known b : Bool) → b ≡ false
          → option_or (if known then Some (value (put_into p t)) else None) rest
          ≡ option_map (replaced_meaning p) (option_or (if known then Some (value (if b then put_into p t else t)) else None) rest)
      go true true e = absurd (cc)
      go true false e = refl
      go false b e = same

  same_meaning : (s : Script) (name : List ℕ) → meaning_of (replacing p) s name ≡ option_map (replaced_meaning p) (meaning_of p s name)
  unfolding meaning_of
  same_meaning s name =
      by_bound (innermost p.scope name) (if_found (λ b. b.stands_for ≡ variable b.variable) (λ b. bytes_eq b.variable.name name) p.scope keeping.themselves)
    where
      others : Option Meaning
      others =
          option_or (option_map macro (find (λ m. bytes_eq m.name name) s.macros))
          (option_or (option_map function (find (λ f. bytes_eq f.name name) s.functions)) (option_map operator (operator_named name)))

      same_others : others ≡ option_map (replaced_meaning p) others
      same_others = same_functions (find (λ m. bytes_eq m.name name) s.macros) (find (λ f. bytes_eq f.name name) s.functions) (operator_named name)

      by_name : (o : Option Named) → option_or (option_and_then (λ n. meaning_of_named (replacing p) n.meant) o) others
          ≡ option_map (replaced_meaning p) (option_or (option_and_then (λ n. meaning_of_named p n.meant) o) others)
      by_name None = same_others
      by_name (Some n) = same_named n.meant others same_others

      known : Place → Option Meaning
      known place = option_or (option_and_then (λ n. meaning_of_named place n.meant) (find (λ n. bytes_eq n.name name) s.named)) others

      by_bound : (o : Option Bound) → IfSome o (λ b. b.stands_for ≡ variable b.variable)
          → option_or (option_map meaning_of_bound o) (known (replacing p))
          ≡ option_map (replaced_meaning p) (option_or (option_map meaning_of_bound o) (known p))
      by_bound None is = by_name (find (λ n. bytes_eq n.name name) s.named)
      by_bound (Some b) is = ap Some (same_bound b is)

-- inside a let
themselves_in : (bs : List Bound) → AreThemselves (map (λ b. itself b.variable) bs)
themselves_in [] = tt
themselves_in (b ∷ bs) = (refl, themselves_in bs)

inside_keeps : (bs : List Bound) (p : Place) → IsKeeping p → IsKeeping (place_inside bs p)
inside_keeps bs p h = record { keeps = h.keeps; themselves = go p.settings.replaces_lets h.keeps }
  where
    go : (b : Bool) → b ≡ false → AreThemselves ((if b then bs else map (λ b. itself b.variable) bs) ++ p.scope)
    go true e = absurd (cc)
    go false e = all_joined (λ b. b.stands_for ≡ variable b.variable) (map (λ b. itself b.variable) bs) p.scope (themselves_in bs) h.themselves

-- no term that was read behind the first n has a let
module _ (n : ℕ) where
  abbrev pub IsLong : Script → Type 0
  IsLong s = IsSince HasNoLet n s.terms

  abbrev pub IsFree : Script → Type 0
  IsFree s = AreSince HasNoLet n s.terms

  abbrev Same : {A : Type 0} → Script → Outcome Script A → Outcome Script A → Type 0
  Same s o other = ReadsSame IsLong IsFree s o other

  settled_same : (cause : Cause) (limit : Option ℕ) (place : ℕ) (t u : Typed) (s : Script) → (HasNoLet t.tree → u ≡ t)
      → Same s (settled cause limit place (Some t) s) (settled cause limit place (Some u) s)
  settled_same cause limit place t u s same = go (is_low limit (height t.tree)) refl
    where
      ended : Bool → Typed → Outcome Script Typed
      ended low t = if low then done t (with_term t.tree s) else refuse TooHigh place (with_term t.tree s)

      go : (low : Bool) → is_low limit (height t.tree) ≡ low → Same s (ended low t) (settled cause limit place (Some u) s)
      go true e = λ long. (
        one_longer HasNoLet n s.terms t.tree long,
        λ free.
            let less = one_less_since HasNoLet n s.terms t.tree long free in
            (less.0, ap (λ (v : Typed). settled cause limit place (Some v) s) (same less.1) ∙ ap (λ low. ended low t) e),
      )
      go false e = tt

  applied_same : (cause : Cause) (limit : Option ℕ) (place : ℕ) (o : Option Typed) (s : Script)
      → Same s (settled cause limit place o s) (settled cause limit place o s)
  applied_same cause limit place None s = tt
  applied_same cause limit place (Some t) s = settled_same cause limit place t t s (λ _. refl)

  -- whatever cause a meaning has that is not applied
  meant_same : (p : Place) → IsKeeping p → (cause : Meaning → Cause) (place : ℕ) (m : Meaning) (ts : List Typed) (s : Script)
      → Same s (settled (cause m) p.settings.limit place (meaning_applied m ts) s)
      (settled (cause (replaced_meaning p m)) p.settings.limit place (meaning_applied (replaced_meaning p m) ts) s)
  unfolding meaning_applied
  meant_same p keeping cause place (value t) [] s =
      settled_same (cause (value t)) p.settings.limit place t (put_into p t) s
      (λ free. ap (λ tree. record { tree = tree; sort = t.sort }) (same_term p.scope keeping.themselves t.tree free))
  meant_same p keeping cause place (value t) (a ∷ ts) s = tt
  meant_same p keeping cause place (macro m) ts s = applied_same (cause (macro m)) p.settings.limit place (meaning_applied (macro m) ts) s
  meant_same p keeping cause place (function f) ts s = applied_same (cause (function f)) p.settings.limit place (meaning_applied (function f) ts) s
  meant_same p keeping cause place (operator op) ts s = applied_same (cause (operator op)) p.settings.limit place (meaning_applied (operator op) ts) s

  same_names : (t : Typed) (ns : List Name) (s : Script) → Same s (with_names t ns s) (with_names t ns s)
  same_names t [] s = same_done IsLong IsFree t s
  same_names t (n ∷ ns) s =
      same_unless IsLong IsFree (is_taken s n.name) Repeated n.place s _ _ (same_names t ns (with_named (record { name = n.name; meant = t }) s))

  by_meaning : (p : Place) → IsKeeping p → (name : List ℕ) (place : ℕ) (s : Script) (next following : Meaning → Outcome Script Typed)
      → ((m : Meaning) → Same s (next m) (following (replaced_meaning p m)))
      → Same s (with_meaning place (meaning_of p s name) s next) (with_meaning place (meaning_of (replacing p) s name) s following)
  by_meaning p keeping name place s next following k =
      subst (λ (o : Option Meaning). Same s (with_meaning place (meaning_of p s name) s next) (with_meaning place o s following))
      (sym (same_meaning p keeping s name)) (go (meaning_of p s name))
    where
      go : (o : Option Meaning) → Same s (with_meaning place o s next) (with_meaning place (option_map (replaced_meaning p) o) s following)
      go None = tt
      go (Some m) = k m

  -- a let that is kept is read
  let_never : (p : Place) → IsKeeping p → (place : ℕ) (bound : List Bound) (t : Typed) (s : Script) (any : Outcome Script Typed)
      → Same s (settled SortMismatch p.settings.limit place (Some (let_term p bound t)) s) any
  let_never p keeping place bound t s any = go p.settings.replaces_lets keeping.keeps
    where
      kept : Typed
      kept = record { tree = let_in (let_bindings_of bound) t.tree; sort = t.sort }

      judged : (low : Bool) → Same s (if low then done kept (with_term kept.tree s) else refuse TooHigh place (with_term kept.tree s)) any
      judged true = λ long. (one_longer HasNoLet n s.terms kept.tree long, λ free. absurd (one_less_since HasNoLet n s.terms kept.tree long free).1)
      judged false = tt

      go : (b : Bool) → b ≡ false → Same s (settled SortMismatch p.settings.limit place (Some (if b then t else kept)) s) any
      go true e = absurd (cc)
      go false e = judged (is_low p.settings.limit (height kept.tree))

  mutual
    unfolding term_from terms_from bounds_from

    pub same_read : (f : Form) (p : Place) (s : Script) → IsKeeping p → Same s (term_from f p s) (term_from f (replacing p) s)
    same_read (faulty cause place) p s keeping = tt
    same_read (number place n) p s keeping = applied_same SortMismatch p.settings.limit place (Some (record { tree = numeral n; sort = Sort.Int })) s
    same_read (symbol n) p s keeping =
        by_meaning p keeping n.name n.place s _ _ (λ m. meant_same p keeping (λ _. SortMismatch) n.place m [] s)
    same_read (application place head fs) p s keeping =
        by_meaning p keeping head.name head.place s _ _
        (λ m. same_then IsLong IsFree s (terms_from fs p s) _ _ _ (all_read fs p s keeping)
        (λ ts u. meant_same p keeping (λ m. refusal_of m ts) place m ts u))
    same_read (let_form place bs body) p s keeping =
        never_then IsLong IsFree s (bounds_from bs [] p s) (bounds_from bs [] (replacing p) s) _ _ (bounds_read bs [] p s keeping)
        (λ bound u end. never_then IsLong IsFree u (term_from body (place_inside bound p) u) (term_from body (replacing (place_inside bound p)) u) _ end
        (same_read body (place_inside bound p) u (inside_keeps bound p keeping))
        (λ t w last. let_never p keeping place bound t w last))
    same_read (annotated place f names) p s keeping =
        same_then IsLong IsFree s (term_from f p s) _ _ _ (same_read f p s keeping) (λ t u. same_names t names u)

    all_read : (fs : Forms) (p : Place) (s : Script) → IsKeeping p → Same s (terms_from fs p s) (terms_from fs (replacing p) s)
    all_read no_forms p s keeping = same_done IsLong IsFree [] s
    all_read (form f fs) p s keeping =
        same_then IsLong IsFree s (term_from f p s) _ _ _ (same_read f p s keeping)
        (λ t u. same_then IsLong IsFree u (terms_from fs p u) _ _ _ (all_read fs p u keeping) (λ ts w. same_done IsLong IsFree (t ∷ ts) w))

    bounds_read : (bs : LetBinds) (earlier : List (List ℕ)) (p : Place) (s : Script) → IsKeeping p
        → Same s (bounds_from bs earlier p s) (bounds_from bs earlier (replacing p) s)
    bounds_read no_binds earlier p s keeping = same_done IsLong IsFree [] s
    bounds_read (bind n f bs) earlier p s keeping =
        same_unless IsLong IsFree (is_built_in n.name || is_among earlier n.name) Repeated n.place s _ _
        (same_then IsLong IsFree s (term_from f p (with_let_name n.name s)) _ _ _ (same_read f p (with_let_name n.name s) keeping)
        (λ t u. same_then IsLong IsFree u (bounds_from bs (n.name ∷ earlier) p u) _ _ _ (bounds_read bs (n.name ∷ earlier) p u keeping)
        (λ bound w. same_done IsLong IsFree _ w)))
