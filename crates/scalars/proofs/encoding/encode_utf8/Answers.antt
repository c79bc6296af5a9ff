-- `scalars::encoding::encode_utf8` meets its contract. Each way writes the bytes of its width, for which there is room. Assumes nothing.
use mathlib.Core.Path.{◌≡◌, sym, ◌∙◌}
use mathlib.Core.Bool.{true}
use mathlib.Core.List.{[], ◌∷◌}
use Prim.Native.Nat.{◌+◌, ◌/◌, ◌%◌, ◌≤◌}
use native.Mathlib.Omega.{arith}
use lib.ListN.{length, length-set}
use Rattle.meaning.specs.Chars.{encode, is_scalar}
use Rattle.laws.proofs.utf8.Encode.{is_scalar_bounds}
use Rattle.scalars.proofs.Encoded.{one_byte_lem, two_bytes, three_bytes, four_bytes, no_scalar, no_room, put}
use Rattle.scalars.proofs.encoding.encode_utf8.Goals as goal

pub returns-then-not-is_scalar : goal.returns-then-not-is_scalar
returns-then-not-is_scalar c = no_scalar _ _ (sym c.is_scalar.ensures ∙ c.if-not-is_scalar.true)

pub returns-then-out-utf8_len : goal.returns-then-out-utf8_len
returns-then-out-utf8_len c = no_room _ _ (sym c.is_scalar.ensures ∙ c.if-not-is_scalar.false)
    (rw c.utf8_len.ensures at c.if-out-utf8_len.true)

pub bounds-out-0 : goal.bounds-out-0
bounds-out-0 c = let room₁_here : 1 ≤ length c.args.out.now = let room_here : length (encode c.args.scalar) ≤ length c.args.out.now = rw c.utf8_len.ensures at c.if-out-utf8_len.false in
    let spelled₁_here : (let k = c.args.scalar in encode k ≡ k ∷ []) = one_byte_lem c.args.scalar c.if-scalar-le127.true in
    rw spelled₁_here at room_here in
    omega (arith, room₁_here)

pub returns-then-scalar-le127 : goal.returns-then-scalar-le127
returns-then-scalar-le127 c = let scalar_here : is_scalar c.args.scalar ≡ true = sym c.is_scalar.ensures ∙ c.if-not-is_scalar.false in
    let spelled₁_here : (let k = c.args.scalar in encode k ≡ k ∷ []) = one_byte_lem c.args.scalar c.if-scalar-le127.true in
    let room₁_here : 1 ≤ length c.args.out.now = let room_here : length (encode c.args.scalar) ≤ length c.args.out.now = rw c.utf8_len.ensures at c.if-out-utf8_len.false in
    let spelled₁_here : (let k = c.args.scalar in encode k ≡ k ∷ []) = one_byte_lem c.args.scalar c.if-scalar-le127.true in
    rw spelled₁_here at room_here in
    put c.args.scalar c.args.out.now _ scalar_here spelled₁_here room₁_here

pub bounds-out-0-then-scalar-le2047 : goal.bounds-out-0-then-scalar-le2047
bounds-out-0-then-scalar-le2047 c = let room₂_here : 2 ≤ length c.args.out.now = let room_here : length (encode c.args.scalar) ≤ length c.args.out.now = rw c.utf8_len.ensures at c.if-out-utf8_len.false in
    let spelled₂_here : (let k = c.args.scalar in encode k ≡ (0xC0 + k / 64) ∷ (0x80 + k % 64) ∷ []) = two_bytes c.args.scalar c.if-scalar-le127.false c.if-scalar-le2047.true in
    rw spelled₂_here at room_here in
    omega (arith, room₂_here)

pub bounds-out-1 : goal.bounds-out-1
bounds-out-1 c = let room₂_here : 2 ≤ length c.args.out.now = let room_here : length (encode c.args.scalar) ≤ length c.args.out.now = rw c.utf8_len.ensures at c.if-out-utf8_len.false in
    let spelled₂_here : (let k = c.args.scalar in encode k ≡ (0xC0 + k / 64) ∷ (0x80 + k % 64) ∷ []) = two_bytes c.args.scalar c.if-scalar-le127.false c.if-scalar-le2047.true in
    rw spelled₂_here at room_here in
    simp length-set (omega (arith, room₂_here))

pub returns-then-scalar-le2047 : goal.returns-then-scalar-le2047
returns-then-scalar-le2047 c = let scalar_here : is_scalar c.args.scalar ≡ true = sym c.is_scalar.ensures ∙ c.if-not-is_scalar.false in
    let spelled₂_here : (let k = c.args.scalar in encode k ≡ (0xC0 + k / 64) ∷ (0x80 + k % 64) ∷ []) = two_bytes c.args.scalar c.if-scalar-le127.false c.if-scalar-le2047.true in
    let room₂_here : 2 ≤ length c.args.out.now = let room_here : length (encode c.args.scalar) ≤ length c.args.out.now = rw c.utf8_len.ensures at c.if-out-utf8_len.false in
    let spelled₂_here : (let k = c.args.scalar in encode k ≡ (0xC0 + k / 64) ∷ (0x80 + k % 64) ∷ []) = two_bytes c.args.scalar c.if-scalar-le127.false c.if-scalar-le2047.true in
    rw spelled₂_here at room_here in
    put c.args.scalar c.args.out.now _ scalar_here spelled₂_here room₂_here

pub bounds-out-0-then-scalar-le65535 : goal.bounds-out-0-then-scalar-le65535
bounds-out-0-then-scalar-le65535 c = let room₃_here : 3 ≤ length c.args.out.now = let room_here : length (encode c.args.scalar) ≤ length c.args.out.now = rw c.utf8_len.ensures at c.if-out-utf8_len.false in
    let spelled₃_here : (let k = c.args.scalar in
    encode k ≡ (0xE0 + k / 4096) ∷ (0x80 + k / 64 % 64) ∷ (0x80 + k % 64) ∷ []) = three_bytes c.args.scalar c.if-scalar-le2047.false c.if-scalar-le65535.true in
    rw spelled₃_here at room_here in
    omega (arith, room₃_here)

pub bounds-out-1-then-scalar-le65535 : goal.bounds-out-1-then-scalar-le65535
bounds-out-1-then-scalar-le65535 c = let room₃_here : 3 ≤ length c.args.out.now = let room_here : length (encode c.args.scalar) ≤ length c.args.out.now = rw c.utf8_len.ensures at c.if-out-utf8_len.false in
    let spelled₃_here : (let k = c.args.scalar in
    encode k ≡ (0xE0 + k / 4096) ∷ (0x80 + k / 64 % 64) ∷ (0x80 + k % 64) ∷ []) = three_bytes c.args.scalar c.if-scalar-le2047.false c.if-scalar-le65535.true in
    rw spelled₃_here at room_here in
    simp length-set (omega (arith, room₃_here))

pub bounds-out-2 : goal.bounds-out-2
bounds-out-2 c = let room₃_here : 3 ≤ length c.args.out.now = let room_here : length (encode c.args.scalar) ≤ length c.args.out.now = rw c.utf8_len.ensures at c.if-out-utf8_len.false in
    let spelled₃_here : (let k = c.args.scalar in
    encode k ≡ (0xE0 + k / 4096) ∷ (0x80 + k / 64 % 64) ∷ (0x80 + k % 64) ∷ []) = three_bytes c.args.scalar c.if-scalar-le2047.false c.if-scalar-le65535.true in
    rw spelled₃_here at room_here in
    simp length-set (omega (arith, room₃_here))

pub returns-then-scalar-le65535 : goal.returns-then-scalar-le65535
returns-then-scalar-le65535 c = let scalar_here : is_scalar c.args.scalar ≡ true = sym c.is_scalar.ensures ∙ c.if-not-is_scalar.false in
    let spelled₃_here : (let k = c.args.scalar in
    encode k ≡ (0xE0 + k / 4096) ∷ (0x80 + k / 64 % 64) ∷ (0x80 + k % 64) ∷ []) = three_bytes c.args.scalar c.if-scalar-le2047.false c.if-scalar-le65535.true in
    let room₃_here : 3 ≤ length c.args.out.now = let room_here : length (encode c.args.scalar) ≤ length c.args.out.now = rw c.utf8_len.ensures at c.if-out-utf8_len.false in
    let spelled₃_here : (let k = c.args.scalar in
    encode k ≡ (0xE0 + k / 4096) ∷ (0x80 + k / 64 % 64) ∷ (0x80 + k % 64) ∷ []) = three_bytes c.args.scalar c.if-scalar-le2047.false c.if-scalar-le65535.true in
    rw spelled₃_here at room_here in
    put c.args.scalar c.args.out.now _ scalar_here spelled₃_here room₃_here

pub overflow_cast-out-2 : goal.overflow_cast-out-2
overflow_cast-out-2 c = let scalar_here : is_scalar c.args.scalar ≡ true = sym c.is_scalar.ensures ∙ c.if-not-is_scalar.false in
    omega (arith, (is_scalar_bounds _ scalar_here).0)

pub bounds-out-0-2 : goal.bounds-out-0-2
bounds-out-0-2 c = let room₄_here : 4 ≤ length c.args.out.now = let room_here : length (encode c.args.scalar) ≤ length c.args.out.now = rw c.utf8_len.ensures at c.if-out-utf8_len.false in
    let spelled₄_here : (let k = c.args.scalar in
    encode k ≡ (0xF0 + k / 262144) ∷ (0x80 + k / 4096 % 64) ∷ (0x80 + k / 64 % 64) ∷ (0x80 + k % 64) ∷ []) = four_bytes c.args.scalar c.if-scalar-le65535.false in
    rw spelled₄_here at room_here in
    omega (arith, room₄_here)

pub bounds-out-1-2 : goal.bounds-out-1-2
bounds-out-1-2 c = let room₄_here : 4 ≤ length c.args.out.now = let room_here : length (encode c.args.scalar) ≤ length c.args.out.now = rw c.utf8_len.ensures at c.if-out-utf8_len.false in
    let spelled₄_here : (let k = c.args.scalar in
    encode k ≡ (0xF0 + k / 262144) ∷ (0x80 + k / 4096 % 64) ∷ (0x80 + k / 64 % 64) ∷ (0x80 + k % 64) ∷ []) = four_bytes c.args.scalar c.if-scalar-le65535.false in
    rw spelled₄_here at room_here in
    simp length-set (omega (arith, room₄_here))

pub bounds-out-2-2 : goal.bounds-out-2-2
bounds-out-2-2 c = let room₄_here : 4 ≤ length c.args.out.now = let room_here : length (encode c.args.scalar) ≤ length c.args.out.now = rw c.utf8_len.ensures at c.if-out-utf8_len.false in
    let spelled₄_here : (let k = c.args.scalar in
    encode k ≡ (0xF0 + k / 262144) ∷ (0x80 + k / 4096 % 64) ∷ (0x80 + k / 64 % 64) ∷ (0x80 + k % 64) ∷ []) = four_bytes c.args.scalar c.if-scalar-le65535.false in
    rw spelled₄_here at room_here in
    simp length-set (omega (arith, room₄_here))

pub bounds-out-3 : goal.bounds-out-3
bounds-out-3 c = let room₄_here : 4 ≤ length c.args.out.now = let room_here : length (encode c.args.scalar) ≤ length c.args.out.now = rw c.utf8_len.ensures at c.if-out-utf8_len.false in
    let spelled₄_here : (let k = c.args.scalar in
    encode k ≡ (0xF0 + k / 262144) ∷ (0x80 + k / 4096 % 64) ∷ (0x80 + k / 64 % 64) ∷ (0x80 + k % 64) ∷ []) = four_bytes c.args.scalar c.if-scalar-le65535.false in
    rw spelled₄_here at room_here in
    simp length-set (omega (arith, room₄_here))

pub returns : goal.returns
returns c = let scalar_here : is_scalar c.args.scalar ≡ true = sym c.is_scalar.ensures ∙ c.if-not-is_scalar.false in
    let spelled₄_here : (let k = c.args.scalar in
    encode k ≡ (0xF0 + k / 262144) ∷ (0x80 + k / 4096 % 64) ∷ (0x80 + k / 64 % 64) ∷ (0x80 + k % 64) ∷ []) = four_bytes c.args.scalar c.if-scalar-le65535.false in
    let room₄_here : 4 ≤ length c.args.out.now = let room_here : length (encode c.args.scalar) ≤ length c.args.out.now = rw c.utf8_len.ensures at c.if-out-utf8_len.false in
    let spelled₄_here : (let k = c.args.scalar in
    encode k ≡ (0xF0 + k / 262144) ∷ (0x80 + k / 4096 % 64) ∷ (0x80 + k / 64 % 64) ∷ (0x80 + k % 64) ∷ []) = four_bytes c.args.scalar c.if-scalar-le65535.false in
    rw spelled₄_here at room_here in
    put c.args.scalar c.args.out.now _ scalar_here spelled₄_here room₄_here
