-- A request that goes to others is the same request.
use Rattle.std.proofs.Math.Nat.{mod-add-mod, mod-eq_of_lt, mod-lt}
use Rattle.cx_inv_run.proofs.Common.{◌≡◌, ◌<◌, ◌+◌, ◌%◌, ◌&&◌, ℕ, zero, true, List, [], ◌∷◌, map, Option, None, Some, nat_lt, refl, ap, ◌∙◌}
use Rattle.cx_inv_run.proofs.Common.{sym, arith, and_from, and_parts, nat_tests, Cluster, Event}
use Rattle.cx_base.specs.declared.event.Event.TheVariants as event
use Rattle.cx_client.specs.Asking.{further, shifted}
use Rattle.cx_script.specs.Names.{names_event}
use Rattle.cx_script.specs.Requests.{asker, asks, is_of_client}

-- ---- places

further_within : (o : Option ℕ) (index count : ℕ) → nat_lt index count ≡ true → nat_lt (further o index count) count ≡ true
further_within None index count inside = inside
further_within (Some n) index count inside =
    let some : zero < count = grind (arith, nat_tests, inside) in
    let less : (index + n) % count < count = mod-lt (index + n) some in
    grind (arith, nat_tests, less)

further_none : (index count : ℕ) → nat_lt index count ≡ true → (index + 0) % count ≡ index
further_none index count inside =
    let less : index < count = grind (arith, nat_tests, inside) in
    let same : index + 0 ≡ index = omega arith in
    ap (λ (m : ℕ). m % count) same ∙ mod-eq_of_lt less

further_next : (index n count : ℕ) → (index + (n + 1)) % count ≡ ((index + n) % count + 1) % count
further_next index n count =
    let same : index + (n + 1) ≡ (index + n) + 1 = omega arith in
    ap (λ (m : ℕ). m % count) same ∙ sym (mod-add-mod (index + n) count 1)

-- ---- what stays

-- where no others are asked it is the line itself
pub itself : (c : Cluster) (e : Event) → shifted c None e ≡ e
itself c (event.Write command batcher) = refl
itself c other = refl

pub all_itself : (c : Cluster) (es : List Event) → map (shifted c None) es ≡ es
all_itself c [] = refl
all_itself c (e ∷ es) = rw (itself c e, all_itself c es) refl

-- it is of the same client, and has the same number
same_asker : (c : Cluster) (o : Option ℕ) (e : Event) → asker (shifted c o e) ≡ asker e
same_asker c o (event.Write command batcher) = refl
same_asker c o other = refl

pub asks_shifted : (c : Cluster) (o : Option ℕ) (client : ℕ) (e : Event) → asks client (shifted c o e) ≡ asks client e
asks_shifted c o client e = ap (is_of_client client) (same_asker c o e)

-- ---- whom it names

pub named_shifted : (c : Cluster) (o : Option ℕ) (e : Event) → names_event c e ≡ true → names_event c (shifted c o e) ≡ true
named_shifted c o (event.Write command batcher) is =
    let p = and_parts (nat_lt command.client c.clients) (nat_lt batcher c.batchers) is in
    and_from (nat_lt command.client c.clients) (nat_lt (further o batcher c.batchers) c.batchers) p.0
    (further_within o batcher c.batchers p.1)
named_shifted c o (event.Read client seq floor reader replica key) is =
    let p = and_parts (nat_lt client c.clients && nat_lt reader c.readers) (nat_lt replica c.replicas) is in
    let q = and_parts (nat_lt client c.clients) (nat_lt reader c.readers) p.0 in
    and_from (nat_lt client c.clients && nat_lt (further o reader c.readers) c.readers) (nat_lt (further o replica c.replicas) c.replicas)
    (and_from (nat_lt client c.clients) (nat_lt (further o reader c.readers) c.readers) q.0 (further_within o reader c.readers q.1))
    (further_within o replica c.replicas p.1)
named_shifted c o (event.Session client seq floor replica key) is =
    let p = and_parts (nat_lt client c.clients) (nat_lt replica c.replicas) is in
    and_from (nat_lt client c.clients) (nat_lt (further o replica c.replicas) c.replicas) p.0 (further_within o replica c.replicas p.1)
named_shifted c o other is = is

-- no place further it is the line's own
pub shifted_none : (c : Cluster) (e : Event) → names_event c e ≡ true → shifted c (Some 0) e ≡ e
shifted_none c (event.Write command batcher) is =
    let p = and_parts (nat_lt command.client c.clients) (nat_lt batcher c.batchers) is in
    ap (λ (b : ℕ). event.Write command b) (further_none batcher c.batchers p.1)
shifted_none c (event.Read client seq floor reader replica key) is =
    let p = and_parts (nat_lt client c.clients && nat_lt reader c.readers) (nat_lt replica c.replicas) is in
    let q = and_parts (nat_lt client c.clients) (nat_lt reader c.readers) p.0 in
    ap (λ (r : ℕ). event.Read client seq floor r ((replica + 0) % c.replicas) key) (further_none reader c.readers q.1)
    ∙ ap (λ (r : ℕ). event.Read client seq floor reader r key) (further_none replica c.replicas p.1)
shifted_none c (event.Session client seq floor replica key) is =
    let p = and_parts (nat_lt client c.clients) (nat_lt replica c.replicas) is in
    ap (λ (r : ℕ). event.Session client seq floor r key) (further_none replica c.replicas p.1)
shifted_none c other is = refl

-- each is one place further than the one before
pub shifted_next : (c : Cluster) (n : ℕ) (e : Event) → shifted c (Some (n + 1)) e ≡ shifted c (Some 1) (shifted c (Some n) e)
shifted_next c n (event.Write command batcher) = ap (λ (b : ℕ). event.Write command b) (further_next batcher n c.batchers)
shifted_next c n (event.Read client seq floor reader replica key) =
    ap (λ (r : ℕ). event.Read client seq floor r ((replica + (n + 1)) % c.replicas) key) (further_next reader n c.readers)
    ∙ ap (λ (p : ℕ). event.Read client seq floor (((reader + n) % c.readers + 1) % c.readers) p key) (further_next replica n c.replicas)
shifted_next c n (event.Session client seq floor replica key) =
    ap (λ (p : ℕ). event.Session client seq floor p key) (further_next replica n c.replicas)
shifted_next c n other = refl
