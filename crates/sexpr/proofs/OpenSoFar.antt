-- What the loop over the tokens knows of those that it has read.
use Rattle.std.proofs.Common.{◌≡◌, ◌≢◌, ℕ, zero, suc, ◌+◌, ◌-◌, ◌<◌, ◌≤◌, false, cond, eqb, Option, Some, None, Ok, Err, List, [], ◌∷◌, ◌++◌, refl, sym, ap, ◌∙◌, subst, arith, append_assoc}
use Rattle.std.proofs.lemmas.Bool.Decides.{nat_tests}
use Rattle.std.specs.Prelude.{option_and_then, option_map}
use Rattle.sexpr.specs.declared.brackets.OpenLists.{OpenLists}
use Rattle.sexpr.specs.declared.causes.Cause.TheVariants.{BadByte}
use Rattle.sexpr.specs.declared.causes.Refusal.{Refusal}
use Rattle.sexpr.specs.declared.lexing.Token.{Token}
use Rattle.sexpr.specs.declared.lexing.TokenKind.{TokenKind}
use Rattle.sexpr.specs.declared.lexing.TokenKind.TheVariants.{Open, Close, Text, Quoted, Word}
use Rattle.sexpr.specs.Tokens.{next_token, ReadsAs}
use Rattle.sexpr.specs.Form.{IsStrayClose, IsOpenList, IsFault, IsFormFault, HasForm}
use Rattle.sexpr.specs.Depths.{depth_after, lists_after, depth_of}
use Rattle.sexpr.specs.OpenSoFar.{IsOutermost, IsOpenAfter}
use Rattle.sexpr.proofs.Balance.{depth_after-suc, depth_of-append, nested_from_depth}
use Rattle.sexpr.proofs.Faults.{closes_none, never_close_from_depth}
use Rattle.sexpr.proofs.OneReading.{reads_more}

-- what a token does to the open lists
record Steps (lists : OpenLists) (t : Token) (after : OpenLists) : Type 0 where
  depth : depth_after lists.depth t.kind ≡ Some after.depth
  outermost : cond (eqb lists.depth 0) t.start lists.outermost ≡ after.outermost

steps_of : (lists : OpenLists) (t : Token) (after : OpenLists) → lists_after lists t ≡ Some after → Steps lists t after
steps_of lists t after e = go (depth_after lists.depth t.kind) refl e
  where
    place : ℕ
    place = cond (eqb lists.depth 0) t.start lists.outermost

    same_lists : (d : ℕ) → Some (record { depth = d; outermost = place }) ≡ Some after → record { depth = d; outermost = place } ≡ after
    same_lists d e = cc

    go : (o : Option ℕ) → depth_after lists.depth t.kind ≡ o → option_map (λ d. let l : OpenLists = record { depth = d; outermost = place } in l) o ≡ Some after → Steps lists t after
    go None step e = absurd (cc)
    go (Some d) step e =
        let f = same_lists d e in
        record { depth = step ∙ ap (λ l. Some l.depth) f; outermost = ap (λ l. l.outermost) f }

depth_after-le : (d : ℕ) (kind : TokenKind) (e : ℕ) → depth_after d kind ≡ Some e → e ≤ d + 1
depth_after-le d Open e h = let f : d + 1 ≡ e = cc in omega arith
depth_after-le zero Close e h = absurd (cc)
depth_after-le (suc d) Close e h = let f : Some d ≡ Some e = sym (depth_after-suc d) ∙ h in let g : d ≡ e = cc in omega arith
depth_after-le d Text e h = let f : d ≡ e = cc in omega arith
depth_after-le d Quoted e h = let f : d ≡ e = cc in omega arith
depth_after-le d Word e h = let f : d ≡ e = cc in omega arith

-- the same with one list less
depth_after-pred : (d : ℕ) (kind : TokenKind) (e : ℕ) → depth_after (suc d) kind ≡ Some (suc e) → depth_after d kind ≡ Some e
depth_after-pred d Open e h = let f : suc d + 1 ≡ suc e = cc in let g : d + 1 ≡ e = omega arith in ap Some g
depth_after-pred d Close e h = let f : Some d ≡ Some (suc e) = sym (depth_after-suc d) ∙ h in let g : d ≡ suc e = cc in ap (λ n. depth_after n Close) g ∙ depth_after-suc e
depth_after-pred d Text e h = let f : suc d ≡ suc e = cc in let g : d ≡ e = omega arith in ap Some g
depth_after-pred d Quoted e h = let f : suc d ≡ suc e = cc in let g : d ≡ e = omega arith in ap Some g
depth_after-pred d Word e h = let f : suc d ≡ suc e = cc in let g : d ≡ e = omega arith in ap Some g

-- only an opening bracket opens the first list
record OpensFirst (kind : TokenKind) (k : ℕ) : Type 0 where
  is_open : kind ≡ Open
  first : k ≡ 0

opens_first : (kind : TokenKind) (k : ℕ) → depth_after 0 kind ≡ Some (suc k) → OpensFirst kind k
opens_first Open k h = let f : 0 + 1 ≡ suc k = cc in record { is_open = refl; first = omega arith }
opens_first Close k h = absurd (cc)
opens_first Text k h = let f : 0 ≡ suc k = cc in absurd (omega arith)
opens_first Quoted k h = let f : 0 ≡ suc k = cc in absurd (omega arith)
opens_first Word k h = let f : 0 ≡ suc k = cc in absurd (omega arith)

depth_of-one : (d : ℕ) (t : Token) → depth_of d (t ∷ []) ≡ depth_after d t.kind
depth_of-one d t = go (depth_after d t.kind)
  where
    go : (o : Option ℕ) → option_and_then (λ d. Some d) o ≡ o
    go None = refl
    go (Some d) = refl

depth_of-push : (d : ℕ) (ts : List Token) (t : Token) (e : ℕ) → depth_of d ts ≡ Some e → depth_of d (ts ++ t ∷ []) ≡ depth_after e t.kind
depth_of-push d ts t e h = depth_of-append d ts (t ∷ []) ∙ ap (option_and_then (λ d. depth_of d (t ∷ []))) h ∙ depth_of-one e t

-- the outermost open list after one token more
outermost_more : (ts : List Token) (t : Token) (d place : ℕ) → depth_of 0 ts ≡ Some d → ((k : ℕ) → d ≡ suc k → IsOutermost ts k place)
    → (k : ℕ) → depth_after d t.kind ≡ Some (suc k) → IsOutermost (ts ++ t ∷ []) k (cond (eqb d 0) t.start place)
outermost_more ts t zero place depth so_far k step =
    let opens = opens_first t.kind k step in
    record { front = ts; bracket = t; back = []; split = refl; is_open = opens.is_open; start = refl; before = depth; after = ap Some (sym opens.first) }
outermost_more ts t (suc d) place depth so_far k step =
    let old = so_far d refl in
    let test : eqb (suc d) 0 ≡ false = grind (arith, nat_tests) in
    record {
      front = old.front;
      bracket = old.bracket;
      back = old.back ++ t ∷ [];
      split = ap (λ us. us ++ t ∷ []) old.split ∙ append_assoc old.front (old.bracket ∷ old.back) (t ∷ []);
      is_open = old.is_open;
      start = rw test old.start;
      before = old.before;
      after = depth_of-push 0 old.back t d old.after ∙ depth_after-pred d t.kind k step;
    }

module _ (bytes text : List ℕ) (place : ℕ) (lists : OpenLists) (so_far : IsOpenAfter bytes text place lists) where
  -- one token more
  pub open_after_next : (t : Token) (after : OpenLists) → Ok (Some t) ≡ next_token text place → place < t.end → Some after ≡ lists_after lists t → IsOpenAfter bytes text t.end after
  open_after_next t after next progress step =
      let steps = steps_of lists t after (sym step) in
      let bound = depth_after-le lists.depth t.kind after.depth steps.depth in
      let few = so_far.few in
      record {
        same_text = so_far.same_text;
        tokens = so_far.tokens ++ t ∷ [];
        read = reads_more text 0 so_far.tokens t (next_token text t.end) (subst (ReadsAs text 0 so_far.tokens) (sym next) so_far.read) refl;
        few = omega arith;
        depth = depth_of-push 0 so_far.tokens t lists.depth so_far.depth ∙ steps.depth;
        outermost = λ k is. subst (IsOutermost (so_far.tokens ++ t ∷ []) k) steps.outermost
            (outermost_more so_far.tokens t lists.depth lists.outermost so_far.depth so_far.outermost k (steps.depth ∙ ap Some is));
      }

  -- a bad byte comes next
  pub bad_byte_next : (refusal : Refusal) → Err refusal ≡ next_token text place → refusal.cause ≡ BadByte → IsFormFault bytes refusal
  bad_byte_next refusal next is =
      let whole : Err refusal ≡ Err (record { cause = BadByte; at = refusal.at }) = λ i. Err (record { cause = is i; at = refusal.at }) in
      subst (λ s. IsFormFault s refusal) so_far.same_text
      (subst (λ cause. IsFault text cause refusal.at) (sym is)
      (record {
        before = so_far.tokens;
        read = subst (ReadsAs text 0 so_far.tokens) (sym next ∙ whole) so_far.read;
        none_stray = never_close_from_depth text so_far.tokens lists.depth so_far.depth;
      }))

  -- a closing bracket comes next, and none is open
  pub stray_next : (t : Token) → Ok (Some t) ≡ next_token text place → lists_after lists t ≡ None → IsStrayClose bytes t.start
  stray_next t next step =
      let closes = closes_none lists.depth t.kind (none_after (depth_after lists.depth t.kind) step) in
      subst (λ s. IsStrayClose s t.start) so_far.same_text
      (record {
        before = so_far.tokens;
        bracket = t;
        read = subst (ReadsAs text 0 so_far.tokens) (sym next) so_far.read;
        is_close = closes.is_close;
        start = refl;
        nested = nested_from_depth text so_far.tokens (so_far.depth ∙ ap Some closes.none);
      })
    where
      none_after : (o : Option ℕ) → option_map (λ d. let l : OpenLists = record { depth = d; outermost = cond (eqb lists.depth 0) t.start lists.outermost } in l) o ≡ None → o ≡ None
      none_after None e = refl
      none_after (Some d) e = absurd (cc)

  -- the end comes next, and no list is open
  pub formed_at_end : Ok None ≡ next_token text place → lists.depth ≡ 0 → HasForm bytes
  formed_at_end next none =
      let nested = nested_from_depth text so_far.tokens (so_far.depth ∙ ap Some none) in
      subst HasForm so_far.same_text
      (nested.0, record { tokens = so_far.tokens; read = subst (ReadsAs text 0 so_far.tokens) (sym next) so_far.read; nested = nested.1 })

  -- the end comes next, and a list is open
  pub open_at_end : Ok None ≡ next_token text place → lists.depth ≢ 0 → IsOpenList bytes lists.outermost
  open_at_end next some =
      let one_less : lists.depth ≡ suc (lists.depth - 1) = omega arith in
      let o = so_far.outermost (lists.depth - 1) one_less in
      subst (λ s. IsOpenList s lists.outermost) so_far.same_text
      (record {
        before = o.front;
        bracket = o.bracket;
        after = o.back;
        read = at_split o.front o.bracket o.back o.split;
        is_open = o.is_open;
        start = o.start;
        nested = nested_from_depth text o.front o.before;
        unclosed = never_close_from_depth text o.back (lists.depth - 1) o.after;
      })
    where
      at_split : (front : List Token) (bracket : Token) (back : List Token) → so_far.tokens ≡ front ++ bracket ∷ back → ReadsAs text 0 (front ++ bracket ∷ back) (Ok None)
      at_split front bracket back split = subst (λ ts. ReadsAs text 0 ts (Ok None)) split (subst (ReadsAs text 0 so_far.tokens) (sym next) so_far.read)
