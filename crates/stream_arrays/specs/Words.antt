-- How a form is written: with one space between words, and then the line feeds that occur in it.
use Rattle.std.specs.Prelude.{ℕ, zero, suc, ◌-◌, Bool, ◌==◌, List, [], ◌∷◌, ◌++◌, map, codes, decimal, slice_range, Option, Some, None}
use Rattle.std.specs.List.{flat_map, filter}
use Rattle.tapa_base.specs.Gaps.{Bytes}
use Rattle.tapa_syntax.specs.declared.lexeme.Lexeme.{Lexeme}
use Rattle.tapa_syntax.specs.Symbols.{text_of}
use Rattle.stream_arrays.specs.declared.piece.Piece.{Piece}
use Rattle.stream_arrays.specs.declared.piece.Piece.TheVariants.{Word, Comma, Instance, Element}

-- words with one space between them
abbrev pub spaced : List Bytes → Bytes
spaced [] = []
spaced (w ∷ ws) = w ++ flat_map (λ v. 32 ∷ v) ws

abbrev pub is_line_feed : ℕ → Bool
is_line_feed b = b == 10

-- where the first of some lexemes begins, and the last one ends
abbrev pub start_of : List Lexeme → ℕ
start_of [] = 0
start_of (l ∷ ls) = l.from

abbrev pub end_of : ℕ → List Lexeme → ℕ
end_of at [] = at
end_of at (l ∷ ls) = end_of l.to ls

-- the line feeds within some lexemes
abbrev pub line_feeds : Bytes → List Lexeme → Bytes
line_feeds text ls = filter is_line_feed (slice_range text (start_of ls) (end_of 0 ls))

-- what is written of the lexemes of a form
abbrev pub form_text : Bytes → List Lexeme → List Bytes → Bytes
form_text text ls words = spaced words ++ line_feeds text ls

-- element i of an array
abbrev pub element_name : Bytes → ℕ → Bytes
element_name x i = x ++ codes "_" ++ decimal i

-- the word of an element, where the lexemes begin with the array's name
abbrev pub element_words : Bytes → List Lexeme → ℕ → List Bytes
element_words text [] k = []
element_words text (l ∷ ls) k = element_name (text_of text l) k ∷ []

-- the numbers below n, in order
abbrev pub below : ℕ → List ℕ
below zero = []
below (suc n) = below n ++ n ∷ []

-- ---- declarations

-- the elements of an array after the first, each after a comma
abbrev pub more_elements : Bytes → ℕ → List Bytes
more_elements x n = flat_map (λ i. codes "," ∷ element_name x (suc i) ∷ []) (below (n - 1))

-- the elements of an array, with commas
abbrev pub elements : Bytes → ℕ → List Bytes
elements x n = element_name x 0 ∷ more_elements x n

abbrev pub more_names : Bytes → ℕ → List Lexeme → List Bytes
more_names text n names = flat_map (λ (x : Lexeme). codes "," ∷ elements (text_of text x) n) names

-- the elements of several arrays, with commas
abbrev pub name_words : Bytes → ℕ → List Lexeme → List Bytes
name_words text n [] = []
name_words text n (x ∷ xs) = elements (text_of text x) n ++ more_names text n xs

abbrev pub depth_words : Bytes → Option Lexeme → List Bytes
depth_words text None = []
depth_words text (Some d) = codes "," ∷ text_of text d ∷ []

abbrev pub words_of : Bytes → List Lexeme → List Bytes
words_of text ls = map (text_of text) ls

-- ---- invokes

-- what a piece of an invoke is in invoke i
abbrev pub piece_word : Bytes → ℕ → Piece → Bytes
piece_word text i (Word l) = text_of text l
piece_word text i Comma = codes ","
piece_word text i (Instance l) = element_name (text_of text l) i
piece_word text i (Element l k) = element_name (text_of text l) k

-- n invokes, one after the other
abbrev pub invoke_words : Bytes → List Piece → ℕ → List Bytes
invoke_words text pieces n = flat_map (λ i. map (piece_word text i) pieces) (below n)
