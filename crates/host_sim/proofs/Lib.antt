mod Awaited
