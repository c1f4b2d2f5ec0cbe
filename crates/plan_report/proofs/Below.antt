-- Lines that are pushed one after another.
use Rattle.std.proofs.Common.{◌≡◌, ℕ, ◌+◌, List, [], ◌∷◌, ◌++◌, Vec, ap, ◌∙◌, add-one, append_assoc}
use Rattle.std.specs.declared.alloc.Global.{Global}
use Rattle.std.proofs.lemmas.List.{map_push}
use Rattle.plan_report.specs.Lines.{texts, lines_below}

texts_push : (lines : List (Vec ℕ Global)) (line : Vec ℕ Global) → texts (lines ++ line ∷ []) ≡ texts lines ++ line.items ∷ []
texts_push lines line = map_push (λ (v : Vec ℕ Global). v.items) lines line

more : (f : ℕ → List ℕ) (before : List (List ℕ)) (lines new : List (Vec ℕ Global)) (n : ℕ) (line : Vec ℕ Global) → new ≡ lines ++ line ∷ [] → texts lines ≡ before ++ lines_below n f → line.items ≡ f n → texts new ≡ before ++ (lines_below n f ++ f n ∷ [])
more f before lines new n line pushed are is =
    ap texts pushed ∙ texts_push lines line ∙ ap (λ (l : List (List ℕ)). l ++ line.items ∷ []) are ∙ ap (λ (t : List ℕ). (before ++ lines_below n f) ++ t ∷ []) is ∙ append_assoc before (lines_below n f) (f n ∷ [])

pub more_lines : (f : ℕ → List ℕ) (before : List (List ℕ)) (lines new : List (Vec ℕ Global)) (n : ℕ) (line : Vec ℕ Global) → new ≡ lines ++ line ∷ [] → texts lines ≡ before ++ lines_below n f → line.items ≡ f n → texts new ≡ before ++ lines_below (n + 1) f
more_lines f before lines new n line pushed are is = rw add-one (more f before lines new n line pushed are is)

pub three_lines : (a b c d : List (Vec ℕ Global)) (x y z : Vec ℕ Global) → b ≡ a ++ x ∷ [] → c ≡ b ++ y ∷ [] → d ≡ c ++ z ∷ [] → texts d ≡ texts a ++ x.items ∷ y.items ∷ z.items ∷ []
three_lines a b c d x y z first second third =
    let two : texts c ≡ texts a ++ x.items ∷ y.items ∷ [] =
    ap texts second ∙ texts_push b y ∙ ap (λ (l : List (Vec ℕ Global)). texts l ++ y.items ∷ []) first ∙ ap (λ (l : List (List ℕ)). l ++ y.items ∷ []) (texts_push a x) ∙ append_assoc (texts a) (x.items ∷ []) (y.items ∷ []) in
    ap texts third ∙ texts_push c z ∙ ap (λ (l : List (List ℕ)). l ++ z.items ∷ []) two ∙ append_assoc (texts a) (x.items ∷ y.items ∷ []) (z.items ∷ [])
