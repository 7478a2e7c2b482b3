use Rattle.std.specs.Prelude.{ℕ, List}
use Rattle.flac_edit.specs.declared.memory.MemoryFile.{MemoryFile}

abbrev pub memory_bytes : MemoryFile → List ℕ
memory_bytes m = m.bytes.items
