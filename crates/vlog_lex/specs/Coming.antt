-- Words that must come as they are.
use Rattle.std.specs.Prelude.{Bool, true, false, List, [], ◌∷◌, codes}
use Rattle.vlog_tree.specs.Spelling.{Word}
use Rattle.vlog_lex.specs.declared.coming.Coming.{Coming}
use Rattle.vlog_lex.specs.declared.coming.Coming.TheVariants.{Nothing, Semicolon, LeftParen, ParenDot, Dot, RightParen, RangeEnd, ZeroBracket, RightBracket, ZeroColon}
use Rattle.vlog_lex.specs.declared.coming.Coming.TheVariants.{Colon, BracketSemicolon, BracketArrow, Arrow, Equals, LeftBrace, BracesEnd, BraceEnd, Clocked, ClockedParen}
use Rattle.vlog_lex.specs.declared.coming.Coming.TheVariants.{ClockedEdge, ClockedName, ParenBegin, Begin}

abbrev pub is_nothing : Coming → Bool
is_nothing Nothing = true
is_nothing _ = false

abbrev pub coming_words : Coming → List Word
coming_words Nothing = []
coming_words Semicolon = codes ";" ∷ []
coming_words LeftParen = codes "(" ∷ []
coming_words ParenDot = codes "(" ∷ codes "." ∷ []
coming_words Dot = codes "." ∷ []
coming_words RightParen = codes ")" ∷ []
coming_words RangeEnd = codes ":" ∷ codes "0" ∷ codes "]" ∷ []
coming_words ZeroBracket = codes "0" ∷ codes "]" ∷ []
coming_words RightBracket = codes "]" ∷ []
coming_words ZeroColon = codes "0" ∷ codes ":" ∷ []
coming_words Colon = codes ":" ∷ []
coming_words BracketSemicolon = codes "]" ∷ codes ";" ∷ []
coming_words BracketArrow = codes "]" ∷ codes "<=" ∷ []
coming_words Arrow = codes "<=" ∷ []
coming_words Equals = codes "=" ∷ []
coming_words LeftBrace = codes "{" ∷ []
coming_words BracesEnd = codes "}" ∷ codes "}" ∷ codes ";" ∷ []
coming_words BraceEnd = codes "}" ∷ codes ";" ∷ []
coming_words Clocked = codes "@" ∷ codes "(" ∷ codes "posedge" ∷ codes "clk" ∷ codes ")" ∷ codes "begin" ∷ []
coming_words ClockedParen = codes "(" ∷ codes "posedge" ∷ codes "clk" ∷ codes ")" ∷ codes "begin" ∷ []
coming_words ClockedEdge = codes "posedge" ∷ codes "clk" ∷ codes ")" ∷ codes "begin" ∷ []
coming_words ClockedName = codes "clk" ∷ codes ")" ∷ codes "begin" ∷ []
coming_words ParenBegin = codes ")" ∷ codes "begin" ∷ []
coming_words Begin = codes "begin" ∷ []

abbrev pub first_coming : List Word → Word
first_coming [] = []
first_coming (w ∷ ws) = w

abbrev pub rest_coming : Coming → Coming
rest_coming ParenDot = Dot
rest_coming RangeEnd = ZeroBracket
rest_coming ZeroBracket = RightBracket
rest_coming ZeroColon = Colon
rest_coming BracketSemicolon = Semicolon
rest_coming BracketArrow = Arrow
rest_coming BracesEnd = BraceEnd
rest_coming BraceEnd = Semicolon
rest_coming Clocked = ClockedParen
rest_coming ClockedParen = ClockedEdge
rest_coming ClockedEdge = ClockedName
rest_coming ClockedName = ParenBegin
rest_coming ParenBegin = Begin
rest_coming _ = Nothing
