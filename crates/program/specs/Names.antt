-- Names: 1 to 16 of a-z, 0-9 and _, a letter first.
use Rattle.std.specs.Prelude.{◌≡◌, ℕ, ◌<◌, ◌≤◌, Bool, true, cond, ◌&&◌, List, [], length, take, ◌==◌, ◌≢◌, nat_le, slice_index, slice_index_or}
use Rattle.program.specs.declared.name.Name.{Name}

-- a to z
abbrev pub letter : ℕ → Bool
letter c = nat_le 97 c && nat_le c 122

-- a to z, 0 to 9, and the underscore
abbrev pub naming : ℕ → Bool
naming c = cond (c == 95) true (cond (nat_le 97 c) (nat_le c 122) (nat_le 48 c && nat_le c 57))

-- the bytes are a well-formed name
pub record Named (bs : List ℕ) : Type 0 where
  pub some : 0 < length bs
  pub short : length bs ≤ 16
  pub begins : letter (slice_index bs 0) ≡ true
  pub rest : (k : ℕ) → k < length bs → naming (slice_index bs k) ≡ true

-- the bytes of a name
abbrev pub spelled : Name → List ℕ
spelled n = take n.len n.bytes

-- the bytes of the k-th name
abbrev pub name_at : List Name → ℕ → List ℕ
name_at names k = spelled (slice_index_or names k (record { bytes = []; len = 0 }))

-- none of the first n names is spelled so
abbrev pub Absent : List Name → ℕ → List ℕ → Type 0
Absent names n bs = (k : ℕ) → k < n → name_at names k ≢ bs

-- i is the first name that is spelled so
abbrev pub Number : List Name → List ℕ → ℕ → Type 0
Number names bs i = (i < length names) × (name_at names i ≡ bs) × Absent names i bs
