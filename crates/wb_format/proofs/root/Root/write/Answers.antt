use Rattle.std.proofs.Common.{◌≡◌, ◌∙◌, ℕ, Bool, true, false, cond, refl, List, replicate, arith}
use mir.Val.{bool_byte}
use Rattle.wb_types.specs.Versions.{version_number}
use Rattle.wb_format.specs.Bytes.{number_at}
use Rattle.wb_format.proofs.Numbers.{SameAround, same-around, number_at-kept, zero-kept, zeros_all}
use Rattle.wb_format.proofs.root.Root.write.Goals as goal

flag : (clean : Bool) → ◌≡◌ {A = ℕ} (bool_byte clean) (cond clean 1 0)
flag true = refl
flag false = refl

pub returns : goal.returns
returns c =
    let s0 : List ℕ = replicate 512 0 in
    let s1 : List ℕ = c.put_u64.new.content in
    let s2 : List ℕ = c.put_u64-2.new.content in
    let s3 : List ℕ = c.put_u32.new.content in
    let s4 : List ℕ = c.put_u32-2.new.content in
    let s5 : List ℕ = c.put_u32-3.new.content in
    let s6 : List ℕ = c.put_u32-4.new.content in
    let s7 : List ℕ = c.put_u32-5.new.content in
    let s8 : List ℕ = c.put_u32-6.new.content in
    let s9 : List ℕ = c.put_u32-7.new.content in
    let s10 : List ℕ = c.put_u32-8.new.content in
    let a9 : SameAround s10 s9 44 48 = record { before = c.put_u32-8.ensures.before; after = c.put_u32-8.ensures.after } in
    let a8 : SameAround s10 s8 40 48 = same-around s10 s9 s8 44 48 40 44 a9 c.put_u32-7.ensures.before c.put_u32-7.ensures.after (omega arith) (omega arith) in
    let a7 : SameAround s10 s7 36 48 = same-around s10 s8 s7 40 48 36 40 a8 c.put_u32-6.ensures.before c.put_u32-6.ensures.after (omega arith) (omega arith) in
    let a6 : SameAround s10 s6 32 48 = same-around s10 s7 s6 36 48 32 36 a7 c.put_u32-5.ensures.before c.put_u32-5.ensures.after (omega arith) (omega arith) in
    let a5 : SameAround s10 s5 28 48 = same-around s10 s6 s5 32 48 28 32 a6 c.put_u32-4.ensures.before c.put_u32-4.ensures.after (omega arith) (omega arith) in
    let a4 : SameAround s10 s4 24 48 = same-around s10 s5 s4 28 48 24 28 a5 c.put_u32-3.ensures.before c.put_u32-3.ensures.after (omega arith) (omega arith) in
    let a3 : SameAround s10 s3 20 48 = same-around s10 s4 s3 24 48 20 24 a4 c.put_u32-2.ensures.before c.put_u32-2.ensures.after (omega arith) (omega arith) in
    let a2 : SameAround s10 s2 16 48 = same-around s10 s3 s2 20 48 16 20 a3 c.put_u32.ensures.before c.put_u32.ensures.after (omega arith) (omega arith) in
    let a1 : SameAround s10 s1 8 48 = same-around s10 s2 s1 16 48 8 16 a2 c.put_u64-2.ensures.before c.put_u64-2.ensures.after (omega arith) (omega arith) in
    let a0 : SameAround s10 s0 0 48 = same-around s10 s1 s0 8 48 0 8 a1 c.put_u64.ensures.before c.put_u64.ensures.after (omega arith) (omega arith) in
    let version : number_at s10 16 4 ≡ version_number c.args.self.now.version = number_at-kept s10 s3 0 20 16 4 _ a3.before (omega arith) (omega arith) (c.put_u32.ensures.number ∙ c.number.ensures) in
    record {
      bytes = c.put_u32-8.ensures.bytes;
      magic = number_at-kept s10 s1 0 8 0 8 _ a1.before (omega arith) (omega arith) (c.put_u64.ensures.number ∙ c.from_le_bytes.ensures);
      generation = number_at-kept s10 s2 0 16 8 8 _ a2.before (omega arith) (omega arith) c.put_u64-2.ensures.number;
      version = version;
      flags = number_at-kept s10 s4 0 24 20 4 _ a4.before (omega arith) (omega arith) (c.put_u32-2.ensures.number ∙ c.from.ensures ∙ flag c.args.self.now.clean);
      geometry = record {
        block = number_at-kept s10 s5 0 28 24 4 _ a5.before (omega arith) (omega arith) c.put_u32-3.ensures.number;
        cache_blocks = number_at-kept s10 s6 0 32 28 4 _ a6.before (omega arith) (omega arith) c.put_u32-4.ensures.number;
        origin_blocks = number_at-kept s10 s7 0 36 32 4 _ a7.before (omega arith) (omega arith) c.put_u32-5.ensures.number;
        meta_sectors = number_at-kept s10 s8 0 40 36 4 _ a8.before (omega arith) (omega arith) c.put_u32-6.ensures.number;
        version = version ∙ c.args.self.now.same_version;
      };
      top = number_at-kept s10 s9 0 44 40 4 _ a9.before (omega arith) (omega arith) (c.put_u32-7.ensures.number ∙ c.number_of_top.ensures);
      top_dirty = c.put_u32-8.ensures.number ∙ c.number_of_top-2.ensures;
      rest = zero-kept s10 s0 48 512 a0.after (zeros_all 512);
    }
