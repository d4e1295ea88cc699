mod Lone
