-- Private. How many lists are open, where the outermost of them began, and what a bracket or another part of a text is to them.
use Rattle.std.specs.Prelude.{ℕ, ◌+◌, ◌-◌, ◌==◌, if◌then◌else◌, Option, Some, None, option_map, List, [], ◌∷◌, option_and_then, Result, Ok, Err}
use Rattle.sexpr.specs.declared.causes.Refusal.{Refusal}
use Rattle.sexpr.specs.declared.brackets.OpenLists.{OpenLists}
use Rattle.sexpr.specs.declared.lexing.Token.{Token}
use Rattle.sexpr.specs.declared.lexing.TokenKind.{TokenKind}
use Rattle.sexpr.specs.declared.lexing.TokenKind.TheVariants.{Open, Close, Text, Quoted, Word}

-- The number of open lists after a token of this kind, or None where it closes a list and none is open.
abbrev pub depth_after : ℕ → TokenKind → Option ℕ
depth_after depth Open = Some (depth + 1)
depth_after depth Close = if depth == 0 then None else Some (depth - 1)
depth_after depth Text = Some depth
depth_after depth Quoted = Some depth
depth_after depth Word = Some depth

-- The same with the place where the outermost open list began, which says nothing where none is open.
abbrev pub lists_after : OpenLists → Token → Option OpenLists
lists_after lists token =
    option_map (λ depth. record { depth = depth; outermost = if lists.depth == 0 then token.start else lists.outermost })
    (depth_after lists.depth token.kind)

-- the number of open lists after these tokens
abbrev pub depth_of : ℕ → List Token → Option ℕ
depth_of depth [] = Some depth
depth_of depth (t ∷ ts) = option_and_then (λ d. depth_of d ts) (depth_after depth t.kind)

-- which bracket a byte is
abbrev pub bracket_kind : ℕ → Option TokenKind
bracket_kind b = if b == 40 then Some Open else if b == 41 then Some Close else None

-- the place after what is read: the end of the text, of this length, where no token is left
abbrev pub end_of_read : ℕ → Result (Option Token) Refusal → Result ℕ Refusal
end_of_read len (Ok (Some t)) = Ok t.end
end_of_read len (Ok None) = Ok len
end_of_read len (Err refusal) = Err refusal
