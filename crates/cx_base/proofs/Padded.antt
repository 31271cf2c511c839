-- An array of zeros into whose front a name, a set or a grid's members were copied.
use Rattle.std.proofs.lemmas.List.{length-replicate, drop-replicate}
use Rattle.cx_base.proofs.Common.{◌≡◌, ◌≤◌, ◌++◌, ◌-◌, ◌*◌, ℕ, List, length, take, drop, replicate, sym, ap, subst, ◌∙◌, arith, IsTrue}
use Rattle.cx_base.proofs.Common.{take_at, drop_at, length-append, length-drop, IsGrid, Shape, IsName, is_rising}

-- bytes before an array of zeros are such an array
pub name_padded : (limit : ℕ) (front bytes : List ℕ) → front ≡ bytes → IsName limit bytes
    → (length (front ++ drop (length bytes) (replicate limit 0)) ≡ limit)
    × (drop (length bytes) (front ++ drop (length bytes) (replicate limit 0)) ≡ replicate (limit - length bytes) 0)
    × (length bytes ≤ limit)
    × IsName limit (take (length bytes) (front ++ drop (length bytes) (replicate limit 0)))
name_padded limit front bytes same name =
    let n = length bytes in
    let len : length front ≡ n = ap length same in
    let tail : List ℕ = drop n (replicate limit 0) in
    let tail-is : tail ≡ replicate (limit - n) 0 = drop-replicate {X = ℕ} n limit 0 in (
      omega (arith, length-append front tail, length-drop {A = ℕ} n (replicate limit 0), length-replicate {A = ℕ} limit 0, name.room),
      drop_at front tail n len ∙ tail-is,
      name.room,
      subst (IsName limit) (sym (take_at front tail n len ∙ same)) name,
    )

-- rising ids before an array of zeros are such an array
pub set_padded : (front ids : List ℕ) → front ≡ ids → length ids ≤ 7 → IsTrue (is_rising ids)
    → (length (front ++ drop (length ids) (replicate 7 0)) ≡ 7)
    × (drop (length ids) (front ++ drop (length ids) (replicate 7 0)) ≡ replicate (7 - length ids) 0)
    × (length ids ≤ 7)
    × IsTrue (is_rising (take (length ids) (front ++ drop (length ids) (replicate 7 0))))
set_padded front ids same room rising =
    let n = length ids in
    let len : length front ≡ n = ap length same in
    let tail : List ℕ = drop n (replicate 7 0) in
    let tail-is : tail ≡ replicate (7 - n) 0 = drop-replicate {X = ℕ} n 7 0 in (
      omega (arith, length-append front tail, length-drop {A = ℕ} n (replicate 7 0), length-replicate {A = ℕ} 7 0, room),
      drop_at front tail n len ∙ tail-is,
      room,
      subst (λ (ns : List ℕ). IsTrue (is_rising ns)) (sym (take_at front tail n len ∙ same)) rising,
    )

-- members before an array of zeros are such an array
pub grid_padded : (s : Shape) (front : List ℕ) → front ≡ s.members → IsGrid s
    → (let ids : List ℕ = front ++ drop (length s.members) (replicate 16 0) in
    (length ids ≡ 16) × (drop (s.rows * s.cols) ids ≡ replicate (16 - s.rows * s.cols) 0)
    × IsGrid (record { rows = s.rows; cols = s.cols; members = take (s.rows * s.cols) ids }))
grid_padded s front same grid =
    let n = s.rows * s.cols in
    let count : length s.members ≡ n = grid.count in
    let len : length front ≡ n = ap length same ∙ count in
    let tail : List ℕ = drop (length s.members) (replicate 16 0) in
    let tail-is : tail ≡ replicate (16 - n) 0 =
    drop-replicate {X = ℕ} (length s.members) 16 0 ∙ ap (λ (k : ℕ). replicate {A = ℕ} (16 - k) 0) count in (
      omega (
        arith,
        length-append front tail,
        length-drop {A = ℕ} (length s.members) (replicate 16 0),
        length-replicate {A = ℕ} 16 0,
        grid.room,
      ),
      drop_at front tail n len ∙ tail-is,
      subst (λ (ms : List ℕ). IsGrid (record { rows = s.rows; cols = s.cols; members = ms })) (sym (take_at front tail n len ∙ same)) grid,
    )
