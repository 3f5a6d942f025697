-- The report of a reading, and what the call permits: the number it returns, the lent image and the report at exit.
use Rattle.std.specs.Prelude.{ℕ, ◌≡◌, List, [], ◌∷◌, length, set}
use Rattle.notation.specs.Reading.{Reading, read_reply}

-- number, place and the image's length, in the three places of the report that is lent
unfoldable pub report_of : Reading → List ℕ → List ℕ
report_of r old = set (set (set old 0 r.number) 1 r.place) 2 r.made

-- a report of three places is these three, whatever it held
abbrev pub WholeReport : Type 0
WholeReport = (r : Reading) (old : List ℕ) → length old ≡ 3 → report_of r old ≡ r.number ∷ (r.place ∷ (r.made ∷ []))

pub record ReadPermits (u image report : List ℕ) (number : ℕ) (image_exit report_exit : List ℕ) : Type 0 where
  pub number_is : number ≡ (read_reply u image).number
  pub image-is : image_exit ≡ (read_reply u image).image
  pub report-is : report_exit ≡ report_of (read_reply u image) report

-- "Any two replies it permits are proved equal"
abbrev pub OneRead : Type 0
OneRead =
    (u image report : List ℕ) (n m : ℕ) (i j p q : List ℕ) → ReadPermits u image report n i p → ReadPermits u image report m j q → (n ≡ m) × (i ≡ j) × (p ≡ q)
