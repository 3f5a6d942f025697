-- Worked examples, which antt computes: what stands next in a few texts, and how far a few tokens are viable.
use mathlib.Core.Path.{◌≡◌, refl}
use mathlib.Core.List.{◌∷◌, ◌++◌}
use Rattle.grammar.specs.Spelling as Spelling
use Rattle.grammar.specs.Leads as Leads
use Rattle.grammar.specs.Leads.{bytes, the, name, up_to, real}
use Rattle.grammar.specs.Scan as Scan
use Rattle.grammar.specs.Scan.{done, broken, token, token_at, viable_by}

-- a token is as long as it can be
tokens :
    (token_at (bytes " ab<=1.5") 0 ≡ token 1 3)
    × (token_at (bytes " ab<=1.5") 3 ≡ token 3 5)
    × (token_at (bytes " ab<=1.5") 5 ≡ token 5 8)
    × (token_at (bytes " ab<=1.5") 8 ≡ done)
    × (token_at (bytes "12ab") 0 ≡ token 0 4)
    × (token_at (bytes "===") 0 ≡ token 0 2)
    × (token_at (bytes "a-1") 1 ≡ token 1 2)
unfolding Spelling.opened Leads.opened Scan.opened
tokens = (refl, refl, refl, refl, refl, refl, refl)

-- comments, and texts that end in one
comments :
    (token_at (bytes "/**/x") 0 ≡ token 4 5)
    × (token_at (bytes "/*/*/x") 0 ≡ token 5 6)
    × (token_at (bytes "//*" ++ (10 ∷ bytes "x")) 0 ≡ token 4 5)
    × (token_at (bytes "a//b") 1 ≡ done)
    × (token_at (bytes "a/*b") 1 ≡ broken 4)
    × (token_at (bytes "/*/") 0 ≡ broken 3)
    × (token_at (bytes "a/") 1 ≡ broken 2)
    × (token_at (bytes "a/b") 1 ≡ broken 2)
unfolding Spelling.opened Leads.opened Scan.opened
comments = (refl, refl, refl, refl, refl, refl, refl, refl)

-- the bytes of a token that can begin one of the lead
leads :
    (viable_by (the "Priority") (bytes "PreCondition") ≡ 2)
    × (viable_by (the "OR") (bytes "ORDER") ≡ 2)
    × (viable_by name (bytes "x_1") ≡ 3)
    × (viable_by name (bytes "1x") ≡ 0)
    × (viable_by (up_to 65535) (bytes "65536") ≡ 4)
    × (viable_by (up_to 65535) (bytes "1x") ≡ 1)
    × (viable_by real (bytes "1.5.2") ≡ 3)
    × (viable_by real (bytes "1.") ≡ 2)
    × (viable_by real (bytes "123456789012345") ≡ 14)
    × (viable_by real (bytes "12345678901234.56") ≡ 16)
unfolding Spelling.opened Leads.opened Scan.opened
leads = (refl, refl, refl, refl, refl, refl, refl, refl, refl, refl)
