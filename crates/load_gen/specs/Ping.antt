-- The program of a station's host: it opens both rings, sends four broadcasts of 60 bytes, waits until they are sent, prints `o`,
-- and halts with the number of the receive head.
use Rattle.std.specs.Prelude.{ℕ, List, codes}

abbrev pub ping_source : List ℕ
ping_source = codes "start:  li a0, 0x40000000\n        li a1, 0x40002800\n        li a2, 0x40003800\n        li t0, 0x40\n        sw t0, 0(a0)\n        li t1, 0x80002000\n        li t2, 0x80004000\n        li t3, 8\nfill:   sw t2, 0(t1)\n        sw x0, 4(t1)\n        sw x0, 8(t1)\n        sw x0, 12(t1)\n        addi t1, t1, 16\n        addi t2, t2, 2047\n        addi t2, t2, 1\n        addi t3, t3, -1\n        bne t3, x0, fill\n        li t1, 0x80002000\n        sw t1, 0(a1)\n        li t0, 128\n        sw t0, 8(a1)\n        li t0, 7\n        sw t0, 24(a1)\n        li t0, 0x8002\n        sw t0, 256(a0)\n        li t1, 0x80003000\n        li t0, -1\n        sw t0, 0(t1)\n        li t0, 0x0002ffff\n        sw t0, 4(t1)\n        csrrs t0, mhartid, x0\n        slli t0, t0, 24\n        sw t0, 8(t1)\n        li t0, 0xb588\n        sw t0, 12(t1)\n        li t2, 0x80001000\n        li t3, 4\n        li t0, 0x0b00003c\ndesc:   sw t1, 0(t2)\n        sw x0, 4(t2)\n        sw t0, 8(t2)\n        sw x0, 12(t2)\n        addi t2, t2, 16\n        addi t3, t3, -1\n        bne t3, x0, desc\n        li t2, 0x80001000\n        sw t2, 0(a2)\n        li t0, 128\n        sw t0, 8(a2)\n        li t0, 10\n        sw t0, 1024(a0)\n        li t0, 4\n        sw t0, 24(a2)\nwait:   lw t1, 16(a2)\n        bne t1, t0, wait\n        li t2, 0x10000000\n        li t0, 111\n        sb t0, 0(t2)\n        li t0, 10\n        sb t0, 0(t2)\n        lw t1, 16(a1)\n        sw t1, 4(t2)\n"
