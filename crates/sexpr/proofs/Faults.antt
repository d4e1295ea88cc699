-- A text has one fault of form at most, and none where it has the form.
use Rattle.std.proofs.Common.{◌≡◌, ℕ, zero, suc, ◌+◌, Option, Some, None, Result, Ok, Err, List, [], ◌∷◌, ◌++◌, refl, sym, ap, ◌∙◌, arith, append_assoc}
use Rattle.std.proofs.lemmas.List.{append_cancel_left}
use Rattle.std.specs.Prelude.{option_and_then, MatchResult}
use Rattle.sexpr.specs.declared.causes.Cause.{Cause}
use Rattle.sexpr.specs.declared.causes.Cause.TheVariants.{BadByte, OpenList, StrayClose, UnknownCommand, BadCommand, UnknownName, Repeated, SortMismatch, LeftOut, WideNumber, TooHigh, NoStep, BadAnchor}
use Rattle.sexpr.specs.declared.causes.Refusal.{Refusal}
use Rattle.sexpr.specs.declared.lexing.Token.{Token}
use Rattle.sexpr.specs.declared.lexing.TokenKind.{TokenKind}
use Rattle.sexpr.specs.declared.lexing.TokenKind.TheVariants.{Open, Close, Text, Quoted, Word}
use Rattle.sexpr.specs.Tokens.{Read, bad_byte, ReadsAs}
use Rattle.sexpr.specs.Form.{AreNested, NeverClose, IsStrayClose, IsBadByte, IsOpenList, IsFault, IsFormFault, HasForm}
use Rattle.sexpr.specs.Depths.{depth_after, depth_of}
use Rattle.sexpr.proofs.Balance.{depth_after-suc, depth_of-append, depth_of-nested, nested_from_depth}
use Rattle.sexpr.proofs.OneReading.{reads_before, compared, Compared, same, shorter, longer, IsFrontOf, IsLast, same_reads}

-- the first closing bracket with nothing open, from d open lists on
record HasStray (d : ℕ) (ts : List Token) : Type 0 where
  front : List Token
  bracket : Token
  back : List Token
  split : ts ≡ front ++ bracket ∷ back
  is_close : bracket.kind ≡ Close
  depth : depth_of d front ≡ Some 0

pub record ClosesNone (d : ℕ) (kind : TokenKind) : Type 0 where
  pub is_close : kind ≡ Close
  pub none : d ≡ 0

pub closes_none : (d : ℕ) (kind : TokenKind) → depth_after d kind ≡ None → ClosesNone d kind
closes_none d Open e = let f : Some (d + 1) ≡ None = e in cc
closes_none zero Close e = record { is_close = refl; none = refl }
closes_none (suc d) Close e = let f : Some d ≡ None = sym (depth_after-suc d) ∙ e in cc
closes_none d Text e = let f : Some d ≡ None = e in cc
closes_none d Quoted e = let f : Some d ≡ None = e in cc
closes_none d Word e = let f : Some d ≡ None = e in cc

stray_of : (d : ℕ) (ts : List Token) → depth_of d ts ≡ None → HasStray d ts
stray_of d [] e = let f : Some d ≡ None = e in cc
stray_of d (t ∷ ts) e = go (depth_after d t.kind) refl e (λ d h. stray_of d ts h)
  where
    later : (d e : ℕ) → depth_after d t.kind ≡ Some e → HasStray e ts → HasStray d (t ∷ ts)
    later d e step stray = record {
      front = t ∷ stray.front;
      bracket = stray.bracket;
      back = stray.back;
      split = ap (λ us. t ∷ us) stray.split;
      is_close = stray.is_close;
      depth = ap (option_and_then (λ d. depth_of d stray.front)) step ∙ stray.depth;
    }

    go : (o : Option ℕ) → depth_after d t.kind ≡ o → option_and_then (λ d. depth_of d ts) o ≡ None → ((d : ℕ) → depth_of d ts ≡ None → HasStray d ts) → HasStray d (t ∷ ts)
    go None step rest again =
        let closes = closes_none d t.kind step in
        record { front = []; bracket = t; back = ts; split = refl; is_close = closes.is_close; depth = ap Some closes.none }
    go (Some e) step rest again = later d e step (again e rest)

-- a stray closing bracket leaves no number
depth_of-stray : (source : List ℕ) (d : ℕ) (front : List Token) (bracket : Token) (back : List Token) → AreNested source front → bracket.kind ≡ Close → depth_of 0 (front ++ bracket ∷ back) ≡ None
depth_of-stray source d front bracket back nested is_close =
    depth_of-append 0 front (bracket ∷ back)
    ∙ ap (option_and_then (λ d. depth_of d (bracket ∷ back))) (depth_of-nested source front 0 nested)
    ∙ ap (λ kind. option_and_then (λ d. depth_of d back) (depth_after 0 kind)) is_close

pub never_close_from_depth : (source : List ℕ) (ts : List Token) (k : ℕ) → depth_of 0 ts ≡ Some k → NeverClose source ts
never_close_from_depth source ts k depth front bracket back split is_close nested =
    let none : None ≡ Some k = sym (depth_of-stray source 0 front bracket back nested is_close) ∙ sym (ap (depth_of 0) split) ∙ depth in cc

record HasDepth (ts : List Token) : Type 0 where
  number : ℕ
  depth : depth_of 0 ts ≡ Some number

depth_from_never_close : (source : List ℕ) (ts : List Token) → NeverClose source ts → HasDepth ts
depth_from_never_close source ts never = go (depth_of 0 ts) refl
  where
    go : (o : Option ℕ) → depth_of 0 ts ≡ o → HasDepth ts
    go None e = let s = stray_of 0 ts e in absurd (never s.front s.bracket s.back s.split s.is_close (nested_from_depth source s.front s.depth))
    go (Some k) e = record { number = k; depth = e }

-- the same from one list more
pub depth_of-suc : (d : ℕ) (ts : List Token) (k : ℕ) → depth_of d ts ≡ Some k → depth_of (suc d) ts ≡ Some (suc k)
depth_of-suc d [] k e = let f : d ≡ k = cc in ap (λ n. Some (suc n)) f
depth_of-suc d (t ∷ ts) k e = go d t.kind e (λ d h. depth_of-suc d ts k h)
  where
    go : (d : ℕ) (kind : TokenKind) → option_and_then (λ d. depth_of d ts) (depth_after d kind) ≡ Some k
        → ((d : ℕ) → depth_of d ts ≡ Some k → depth_of (suc d) ts ≡ Some (suc k))
        → option_and_then (λ d. depth_of d ts) (depth_after (suc d) kind) ≡ Some (suc k)
    go d Open e again = let f : suc d + 1 ≡ suc (d + 1) = omega arith in rw f (again (d + 1) e)
    go zero Close e again = let f : None ≡ Some k = e in cc
    go (suc d) Close e again =
        ap (option_and_then (λ d. depth_of d ts)) (depth_after-suc (suc d))
        ∙ again d (sym (ap (option_and_then (λ d. depth_of d ts)) (depth_after-suc d)) ∙ e)
    go d Text e again = again d e
    go d Quoted e again = again d e
    go d Word e again = again d e

-- a list that stays open
depth_of-open : (source : List ℕ) (front : List Token) (bracket : Token) (back : List Token) (k : ℕ) → AreNested source front → bracket.kind ≡ Open → depth_of 0 back ≡ Some k → depth_of 0 (front ++ bracket ∷ back) ≡ Some (suc k)
depth_of-open source front bracket back k nested is_open after =
    depth_of-append 0 front (bracket ∷ back)
    ∙ ap (option_and_then (λ d. depth_of d (bracket ∷ back))) (depth_of-nested source front 0 nested)
    ∙ ap (λ kind. option_and_then (λ d. depth_of d back) (depth_after 0 kind)) is_open
    ∙ depth_of-suc 0 back k after

-- what a whole read of the text tells: how it ends, and how many lists are open then
record Whole (source : List ℕ) (last : Read) (number : ℕ) : Type 0 where
  tokens : List Token
  read : ReadsAs source 0 tokens last
  is_last : IsLast last
  depth : depth_of 0 tokens ≡ Some number

one_number : (a b : Option ℕ) (m n : ℕ) → a ≡ b → a ≡ Some m → b ≡ Some n → m ≡ n
one_number a b m n e h k = cc

record SameWhole (l m : Read) (a b : ℕ) : Type 0 where
  last : l ≡ m
  number : a ≡ b

same_whole : (source : List ℕ) (l m : Read) (a b : ℕ) → Whole source l a → Whole source m b → SameWhole l m a b
same_whole source l m a b h k =
    let reads = same_reads source h.tokens l k.tokens m h.read k.read h.is_last k.is_last in
    record { last = reads.last; number = one_number _ _ a b (ap (depth_of 0) reads.tokens) h.depth k.depth }

-- tokens that go on after a stray closing bracket leave no number
stray_in_front : (source : List ℕ) (place : ℕ) (ys : List Token) (number : ℕ) (stray : IsStrayClose source place) → IsFrontOf stray.before (Ok (Some stray.bracket)) ys → depth_of 0 ys ≡ Some number → ⊥
stray_in_front source place ys number stray front depth =
    let is_bracket : stray.bracket ≡ front.next = let f = front.last_is in cc in
    let is_close : front.next.kind ≡ Close = ap (λ t. t.kind) (sym is_bracket) ∙ stray.is_close in
    let none : None ≡ Some number = sym (depth_of-stray source 0 stray.before front.next front.rest stray.nested is_close) ∙ sym (ap (depth_of 0) front.split) ∙ depth in cc

-- a stray closing bracket rules out a whole read that leaves a number
no_whole : (source : List ℕ) (place : ℕ) (last : Read) (number : ℕ) → IsStrayClose source place → Whole source last number → ⊥
no_whole source place last number stray whole = go (compared source 0 stray.before (Ok (Some stray.bracket)) whole.tokens last stray.read whole.read)
  where
    go : Compared stray.before (Ok (Some stray.bracket)) whole.tokens last → ⊥
    go (same tokens ends) = whole.is_last stray.bracket (sym ends)
    go (longer front) = whole.is_last front.next front.last_is
    go (shorter front) = stray_in_front source place whole.tokens number stray front whole.depth

same_token : (x y : Token) (l m : Read) → l ≡ Ok (Some x) → m ≡ Ok (Some y) → l ≡ m → x ≡ y
same_token x y l m h k e = cc

one_stray : (source : List ℕ) (p q : ℕ) → IsStrayClose source p → IsStrayClose source q → p ≡ q
one_stray source p q a b = go (compared source 0 a.before (Ok (Some a.bracket)) b.before (Ok (Some b.bracket)) a.read b.read)
  where
    go : Compared a.before (Ok (Some a.bracket)) b.before (Ok (Some b.bracket)) → p ≡ q
    go (same tokens ends) = sym a.start ∙ ap (λ t. t.start) (same_token a.bracket b.bracket _ _ refl refl ends) ∙ b.start
    go (shorter front) = absurd (stray_in_front source p b.before 0 a front (depth_of-nested source b.before 0 b.nested))
    go (longer front) = absurd (stray_in_front source q a.before 0 b front (depth_of-nested source a.before 0 a.nested))

depth_of-front : (xs ys : List Token) (k : ℕ) → depth_of 0 (xs ++ ys) ≡ Some k → HasDepth xs
depth_of-front xs ys k e = go (depth_of 0 xs) refl
  where
    go : (o : Option ℕ) → depth_of 0 xs ≡ o → HasDepth xs
    go None f =
        let none : None ≡ Some k = sym (ap (option_and_then (λ e. depth_of e ys)) f) ∙ sym (depth_of-append 0 xs ys) ∙ e in cc
    go (Some n) f = record { number = n; depth = f }

-- A list that stays open to the end can't stand inside whole items.
open_in_front : (source : List ℕ) (p q : ℕ) (a : IsOpenList source p) (b : IsOpenList source q)
    → a.before ++ a.bracket ∷ a.after ≡ b.before ++ b.bracket ∷ b.after → IsFrontOf a.before (Ok (Some a.bracket)) b.before → ⊥
open_in_front source p q a b tokens front =
    let joined : a.before ++ (a.bracket ∷ a.after) ≡ a.before ++ (front.next ∷ (front.rest ++ b.bracket ∷ b.after)) =
    tokens ∙ ap (λ xs. xs ++ b.bracket ∷ b.after) front.split ∙ append_assoc a.before (front.next ∷ front.rest) (b.bracket ∷ b.after) in
    let cut = append_cancel_left a.before (a.bracket ∷ a.after) (front.next ∷ (front.rest ++ b.bracket ∷ b.after)) joined in
    let is_bracket : a.bracket ≡ front.next = cc in
    let is_open : front.next.kind ≡ Open = ap (λ t. t.kind) (sym is_bracket) ∙ a.is_open in
    let after : a.after ≡ front.rest ++ b.bracket ∷ b.after = cc in
    let d = depth_from_never_close source a.after a.unclosed in
    let f = depth_of-front front.rest (b.bracket ∷ b.after) d.number (sym (ap (depth_of 0) after) ∙ d.depth) in
    let one_more = depth_of-open source a.before front.next front.rest f.number a.nested is_open f.depth in
    let clash : suc f.number ≡ 0 = one_number (depth_of 0 b.before) (depth_of 0 b.before) _ _ refl (ap (depth_of 0) front.split ∙ one_more) (depth_of-nested source b.before 0 b.nested) in
    omega (arith, clash)

one_open : (source : List ℕ) (p q : ℕ) → IsOpenList source p → IsOpenList source q → p ≡ q
one_open source p q a b = go (compared source 0 a.before (Ok (Some a.bracket)) b.before (Ok (Some b.bracket)) (reads_before source 0 a.before a.bracket a.after (Ok None) a.read) (reads_before source 0 b.before b.bracket b.after (Ok None) b.read))
  where
    tokens : a.before ++ a.bracket ∷ a.after ≡ b.before ++ b.bracket ∷ b.after
    tokens = (same_reads source (a.before ++ a.bracket ∷ a.after) (Ok None) (b.before ++ b.bracket ∷ b.after) (Ok None) a.read b.read (λ t e. cc) (λ t e. cc)).tokens

    go : Compared a.before (Ok (Some a.bracket)) b.before (Ok (Some b.bracket)) → p ≡ q
    go (same before ends) = sym a.start ∙ ap (λ t. t.start) (same_token a.bracket b.bracket _ _ refl refl ends) ∙ b.start
    go (shorter front) = absurd (open_in_front source p q a b tokens front)
    go (longer front) = absurd (open_in_front source q p b a (sym tokens) front)

whole_bad_byte : (source : List ℕ) (place : ℕ) → IsBadByte source place → (number : ℕ) × Whole source (bad_byte place) number
whole_bad_byte source place bad =
    let d = depth_from_never_close source bad.before bad.none_stray in
    (d.number, record { tokens = bad.before; read = bad.read; is_last = λ t e. cc; depth = d.depth })

whole_open_list : (source : List ℕ) (place : ℕ) → IsOpenList source place → (number : ℕ) × Whole source (Ok None) (suc number)
whole_open_list source place open_list =
    let d = depth_from_never_close source open_list.after open_list.unclosed in (
      d.number,
      record {
        tokens = open_list.before ++ open_list.bracket ∷ open_list.after;
        read = open_list.read;
        is_last = λ t e. cc;
        depth = depth_of-open source open_list.before open_list.bracket open_list.after d.number open_list.nested open_list.is_open d.depth;
      },
    )

whole_formed : (source : List ℕ) → HasForm source → Whole source (Ok None) 0
whole_formed source (items, stands) =
    record { tokens = stands.tokens; read = stands.read; is_last = λ t e. cc; depth = depth_of-nested source stands.tokens 0 (items, stands.nested) }

data FaultKind (source : List ℕ) (cause : Cause) (place : ℕ) : Type 0 where
  a_bad_byte : cause ≡ BadByte → IsBadByte source place → FaultKind source cause place
  a_stray_close : cause ≡ StrayClose → IsStrayClose source place → FaultKind source cause place
  an_open_list : cause ≡ OpenList → IsOpenList source place → FaultKind source cause place

kind_of : (source : List ℕ) (cause : Cause) (place : ℕ) → IsFault source cause place → FaultKind source cause place
kind_of source BadByte place fault = a_bad_byte refl fault
kind_of source StrayClose place fault = a_stray_close refl fault
kind_of source OpenList place fault = an_open_list refl fault
kind_of source UnknownCommand place fault = absurd fault
kind_of source BadCommand place fault = absurd fault
kind_of source UnknownName place fault = absurd fault
kind_of source Repeated place fault = absurd fault
kind_of source SortMismatch place fault = absurd fault
kind_of source LeftOut place fault = absurd fault
kind_of source WideNumber place fault = absurd fault
kind_of source TooHigh place fault = absurd fault
kind_of source NoStep place fault = absurd fault
kind_of source BadAnchor place fault = absurd fault

no_fault : (source : List ℕ) (cause : Cause) (place : ℕ) → HasForm source → FaultKind source cause place → ⊥
no_fault source cause place formed (a_bad_byte is bad) =
    let w = whole_bad_byte source place bad in
    let e = (same_whole source _ _ _ _ w.1 (whole_formed source formed)).last in cc
no_fault source cause place formed (a_stray_close is stray) = no_whole source place (Ok None) 0 stray (whole_formed source formed)
no_fault source cause place formed (an_open_list is open_list) =
    let w = whole_open_list source place open_list in
    let e = (same_whole source _ _ _ _ w.1 (whole_formed source formed)).number in omega (arith, e)

abbrev place_of_read : Read → ℕ
place_of_read (Err refusal) = refusal.at
place_of_read (Ok found) = 0

record SameFault (c d : Cause) (p q : ℕ) : Type 0 where
  cause : c ≡ d
  place : p ≡ q

same_kind : (source : List ℕ) (c d : Cause) (p q : ℕ) → FaultKind source c p → FaultKind source d q → SameFault c d p q
same_kind source c d p q (a_bad_byte is a) (a_bad_byte also b) =
    let e = (same_whole source _ _ _ _ (whole_bad_byte source p a).1 (whole_bad_byte source q b).1).last in
    record { cause = is ∙ sym also; place = ap place_of_read e }
same_kind source c d p q (a_bad_byte is a) (a_stray_close also b) = absurd (no_whole source q _ _ b (whole_bad_byte source p a).1)
same_kind source c d p q (a_bad_byte is a) (an_open_list also b) =
    let e = (same_whole source _ _ _ _ (whole_bad_byte source p a).1 (whole_open_list source q b).1).last in absurd (cc)
same_kind source c d p q (a_stray_close is a) (a_bad_byte also b) = absurd (no_whole source p _ _ a (whole_bad_byte source q b).1)
same_kind source c d p q (a_stray_close is a) (a_stray_close also b) = record { cause = is ∙ sym also; place = one_stray source p q a b }
same_kind source c d p q (a_stray_close is a) (an_open_list also b) = absurd (no_whole source p _ _ a (whole_open_list source q b).1)
same_kind source c d p q (an_open_list is a) (a_bad_byte also b) =
    let e = (same_whole source _ _ _ _ (whole_open_list source p a).1 (whole_bad_byte source q b).1).last in absurd (cc)
same_kind source c d p q (an_open_list is a) (a_stray_close also b) = absurd (no_whole source q _ _ b (whole_open_list source p a).1)
same_kind source c d p q (an_open_list is a) (an_open_list also b) = record { cause = is ∙ sym also; place = one_open source p q a b }

-- a text with the form has no fault
pub formed_has_no_fault : (source : List ℕ) (refusal : Refusal) → HasForm source → IsFormFault source refusal → ⊥
formed_has_no_fault source refusal formed fault = no_fault source refusal.cause refusal.at formed (kind_of source refusal.cause refusal.at fault)

-- a text has one fault at most
pub one_fault : (source : List ℕ) (r s : Refusal) → IsFormFault source r → IsFormFault source s → r ≡ s
one_fault source r s h k =
    let e = same_kind source r.cause s.cause r.at s.at (kind_of source r.cause r.at h) (kind_of source s.cause s.at k) in
    λ i. record { cause = e.cause i; at = e.place i }

-- what the judgement of a text says of it, in both directions
pub ok_where_formed : (source : List ℕ) (r : Result (Unit {0}) Refusal) → MatchResult r (λ _. HasForm source) (IsFormFault source) → HasForm source → r ≡ Ok tt
ok_where_formed source (Ok u) judged formed = refl
ok_where_formed source (Err e) judged formed = absurd (formed_has_no_fault source e formed judged)

pub err_where_faulty : (source : List ℕ) (r : Result (Unit {0}) Refusal) → MatchResult r (λ _. HasForm source) (IsFormFault source) → (refusal : Refusal) → IsFormFault source refusal → r ≡ Err refusal
err_where_faulty source (Ok u) judged refusal fault = absurd (formed_has_no_fault source refusal judged fault)
err_where_faulty source (Err e) judged refusal fault = ap Err (one_fault source e refusal judged fault)
